-- Steps, from what was done on their way.
use Rattle.std.proofs.Common.{◌≡◌, ℕ, ℤ, List, ◌∷◌, Option, Result, Ok, Err, IfErr, IfOk, inl, inr, map, refl, subst, sym}
use Rattle.std.specs.Global.{Vec}
use Rattle.path_verifiers.specs.Fingerprint.{fingerprint_of}
use Rattle.path_verifiers.specs.ListVerifier.{Believes}
use Rattle.path_verifiers.specs.declared.list_verifier.ListVerifier.{ListVerifier}
use Rattle.relying_agreement.specs.declared.verdict.Verdict.{Verdict}
use Rattle.statements_facts.specs.declared.counts.Counts.{Counts}
use Rattle.cli_failures.specs.Failures.{Holding}
use Rattle.cli_failures.specs.declared.failure.Failure.{Failure}
use Rattle.cli_failures.specs.declared.failure.Failure.TheVariants.{NoMemory}
use Rattle.store_listing.specs.Listing.{seen_held_issuer, seen_listing}
use Rattle.store_listing.specs.declared.held.Listing.{Listing}
use Rattle.cli_listing.specs.ListingText.{IdsRise, listing_text}
use Rattle.cli_operands.specs.Asked.{AcceptsJust, IsBadMoment, IsMomentOf}
use Rattle.cli_steps.specs.Believed.{BelievesJust, accepted_by}
use Rattle.cli_steps.specs.declared.believed.Believed.{Believed}
use Rattle.cli_words.specs.PolicyTexts.{PolicyTexts}
use Rattle.cli_words.specs.QueryTexts.{QueryTexts}
use Rattle.cli_words.specs.SearchTexts.{SearchTexts}
use Rattle.cli_steps.specs.Found.{FindsByTexts}
use Rattle.cli_steps.specs.Keeping.{AnswersCleanly, AnswersWithLines, AnswersWithListing, AnswersWithVerdict, FindsCleanly, Keeping, Cleanly, Takes, TakesCleanly, taking, trying}
use Rattle.cli_steps.specs.Passing.{AsksByWords, DeliversTo, PassesOn}
use Rattle.cli_steps.specs.State.{believing, forgetting, keeping}
use Rattle.cli_steps.specs.Steps.{BelievesMore, ChecksPath, ChecksPolicies, DeliversFile, FindsPath, ListsHeld}
use Rattle.cli_steps.specs.Ways.{Steps}
use Rattle.cli_steps.specs.declared.answer.SessionAnswer.TheVariants.{Believes as Told_more, Delivered, Told, ToldWithPolicies, Found, Listed, Failed}
use Rattle.cli_steps.specs.declared.found.FoundPath.{FoundPath}
use Rattle.cli_steps.specs.declared.policy_verdict.PolicyVerdict.{PolicyVerdict}
use Rattle.cli_steps.specs.WithPolicies.{ChecksByTexts}

-- a verifier that believes these fingerprints accepts just them
accepts_just : (believed : Believed) (prints : List (List ℕ)) → BelievesJust believed prints → AcceptsJust prints (accepted_by believed)
accepts_just believed prints believes = λ algorithm key message signature. believes (fingerprint_of algorithm key message signature)

-- ---- a keeper that takes facts and answers

module _ {K : Type 0} (is_clean : K → Type 0) (keeps : K → Keeping) (old new : K) where
  -- its disk was clean before if it is
  was_clean_before : {A T : Type 0} (Reads : A → Type 0) (Refuses : Failure → Type 0) (Did : K → K → A → Result T Failure → Type 0) (result : Result T Failure)
      → PassesOn Reads Refuses (λ old new it result. Cleanly (is_clean old) (is_clean new) (Did old new it result)) old new result → is_clean new → is_clean old
  was_clean_before Reads Refuses Did (Ok answer) (it, reads, did) clean = did.0 clean
  was_clean_before Reads Refuses Did (Err failure) (inl (refused, same)) clean = subst is_clean same clean
  was_clean_before Reads Refuses Did (Err failure) (inr (it, reads, did)) clean = did.0 clean

module _ {K : Type 0} (is_clean : K → Type 0) (keeps : K → Keeping) (old new : K) (believed : Believed) (holds : Holding) where
  pub delivers_cleanly : (issuer file : List ℕ) (result : Result Counts Failure) → DeliversTo holds (accepted_by believed) issuer file (TakesCleanly is_clean keeps) old new result → is_clean new → is_clean old
  delivers_cleanly issuer file result = was_clean_before is_clean keeps old new _ _ (λ old new facts result. Takes (keeps old) (keeps new) facts result) result

  pub delivered : (issuer file : List ℕ) (counts : Counts) → DeliversTo holds (accepted_by believed) issuer file (TakesCleanly is_clean keeps) old new (Ok counts) → is_clean new
      → Steps believed (keeps old) believed (keeps new) (λ before after. DeliversFile holds issuer file before after (Delivered counts))
  delivered issuer file counts (facts, says, did) clean before is =
      let done = did.1 clean before.kept is.keeps in (
        keeping (taking facts before.kept) before,
        record { listed = is.listed; believes = is.believes; keeps = done.0 },
        (accepted_by believed, accepts_just believed before.prints is.believes, (facts, says, done.1, refl)),
      )

  pub not_delivered : (issuer file : List ℕ) (failure : Failure) → DeliversTo holds (accepted_by believed) issuer file (TakesCleanly is_clean keeps) old new (Err failure) → is_clean new
      → Steps believed (keeps old) believed (keeps new) (λ before after. DeliversFile holds issuer file before after (Failed failure))
  not_delivered issuer file failure (inl (refused, same)) clean before is = (
    before,
    record { listed = is.listed; believes = is.believes; keeps = subst (λ (keeper : K). keeps keeper before.kept) (sym same) is.keeps },
    (accepted_by believed, accepts_just believed before.prints is.believes, (before.kept, inl (refused, refl), refl)),
  )
  not_delivered issuer file failure (inr (facts, says, did)) clean before is =
      let done = did.1 clean before.kept is.keeps in (
        keeping (trying facts before.kept) before,
        record { listed = is.listed; believes = is.believes; keeps = done.0 },
        (accepted_by believed, accepts_just believed before.prints is.believes, (trying facts before.kept, inr (facts, says, done.1, refl), refl)),
      )

  pub asks_cleanly : (texts : QueryTexts) (result : Result Verdict Failure) → AsksByWords holds (accepted_by believed) texts (AnswersCleanly is_clean keeps) old new result → is_clean new → is_clean old
  asks_cleanly texts result =
      was_clean_before is_clean keeps old new _ _ (λ old new query result. AnswersWithVerdict (keeps old) (keeps new) (accepted_by believed) query result) result

  pub checked : (texts : QueryTexts) (verdict : Verdict) → AsksByWords holds (accepted_by believed) texts (AnswersCleanly is_clean keeps) old new (Ok verdict) → is_clean new
      → Steps believed (keeps old) believed (keeps new) (λ before after. ChecksPath holds texts before (Told verdict) × (after ≡ before))
  checked texts verdict (query, asks, did) clean before is =
      let done = did.1 clean before.kept is.keeps in (
        before,
        record { listed = is.listed; believes = is.believes; keeps = done.0 },
        ((accepted_by believed, accepts_just believed before.prints is.believes, (query, asks, done.1)), refl),
      )

  pub not_checked : (texts : QueryTexts) (failure : Failure) → AsksByWords holds (accepted_by believed) texts (AnswersCleanly is_clean keeps) old new (Err failure) → is_clean new
      → Steps believed (keeps old) believed (keeps new) (λ before after. ChecksPath holds texts before (Failed failure) × (after ≡ before))
  not_checked texts failure (inl (refused, same)) clean before is = (
    before,
    record { listed = is.listed; believes = is.believes; keeps = subst (λ (keeper : K). keeps keeper before.kept) (sym same) is.keeps },
    (inl refused, refl),
  )
  not_checked texts failure (inr (query, asks, did)) clean before is =
      let done = did.1 clean before.kept is.keeps in (
        before,
        record { listed = is.listed; believes = is.believes; keeps = done.0 },
        (inr ((query, asks), done.1), refl),
      )

  -- ---- verdicts with policies

  pub checks_cleanly : (texts : QueryTexts) (policies : PolicyTexts) (result : Result PolicyVerdict Failure) → ChecksByTexts holds (accepted_by believed) texts policies (AnswersCleanly is_clean keeps) old new result
      → is_clean new → is_clean old
  checks_cleanly texts policies (Ok told) (q, asks, (verdict, did, tells)) clean = did.0 clean
  checks_cleanly texts policies (Err failure) (inl (refused, same)) clean = subst is_clean same clean
  checks_cleanly texts policies (Err failure) (inr (q, asks, inl did)) clean = did.0 clean
  checks_cleanly texts policies (Err failure) (inr (q, asks, inr (verdict, did, memory))) clean = did.0 clean

  pub checked_policies : (texts : QueryTexts) (policies : PolicyTexts) (told : PolicyVerdict) → ChecksByTexts holds (accepted_by believed) texts policies (AnswersCleanly is_clean keeps) old new (Ok told) → is_clean new
      → Steps believed (keeps old) believed (keeps new) (λ before after. ChecksPolicies holds texts policies before (ToldWithPolicies told) × (after ≡ before))
  checked_policies texts policies told (q, asks, (verdict, did, (answer, adds, says))) clean before state =
      let done = did.1 clean before.kept state.keeps in (
        before,
        record { listed = state.listed; believes = state.believes; keeps = done.0 },
        ((accepted_by believed, accepts_just believed before.prints state.believes, (q, asks, (answer, adds (accepted_by believed) before.kept.held done.1, says))), refl),
      )

  pub not_checked_policies : (texts : QueryTexts) (policies : PolicyTexts) (failure : Failure) → ChecksByTexts holds (accepted_by believed) texts policies (AnswersCleanly is_clean keeps) old new (Err failure) → is_clean new
      → Steps believed (keeps old) believed (keeps new) (λ before after. ChecksPolicies holds texts policies before (Failed failure) × (after ≡ before))
  not_checked_policies texts policies failure (inl (refused, same)) clean before state = (
    before,
    record { listed = state.listed; believes = state.believes; keeps = subst (λ (keeper : K). keeps keeper before.kept) (sym same) state.keeps },
    (inl refused, refl),
  )
  not_checked_policies texts policies failure (inr (q, asks, inl did)) clean before state =
      let done = did.1 clean before.kept state.keeps in (
        before,
        record { listed = state.listed; believes = state.believes; keeps = done.0 },
        (inr ((q, asks), done.1), refl),
      )
  not_checked_policies texts policies failure (inr (q, asks, inr (verdict, did, memory))) clean before state =
      let done = did.1 clean before.kept state.keeps in (
        before,
        record { listed = state.listed; believes = state.believes; keeps = done.0 },
        (inr ((q, asks), inl memory), refl),
      )

  -- ---- searches

  pub finds_cleanly : (texts : SearchTexts) (result : Result FoundPath Failure) → FindsByTexts holds (accepted_by believed) texts (FindsCleanly is_clean keeps) old new result → is_clean new → is_clean old
  finds_cleanly texts (Ok answer) (asked, is, (finding, did, answers)) clean = did.0 clean
  finds_cleanly texts (Err failure) (inl (refused, same)) clean = subst is_clean same clean
  finds_cleanly texts (Err failure) (inr (asked, is, inl did)) clean = did.0 clean
  finds_cleanly texts (Err failure) (inr (asked, is, inr (finding, did, memory))) clean = did.0 clean

  pub found : (texts : SearchTexts) (answer : FoundPath) → FindsByTexts holds (accepted_by believed) texts (FindsCleanly is_clean keeps) old new (Ok answer) → is_clean new
      → Steps believed (keeps old) believed (keeps new) (λ before after. FindsPath holds texts before (Found answer) × (after ≡ before))
  found texts answer (asked, is, (finding, did, answers)) clean before state =
      let done = did.1 clean before.kept state.keeps in (
        before,
        record { listed = state.listed; believes = state.believes; keeps = done.0 },
        ((accepted_by believed, accepts_just believed before.prints state.believes, (asked, is, (finding, done.1, answers))), refl),
      )

  pub not_found : (texts : SearchTexts) (failure : Failure) → FindsByTexts holds (accepted_by believed) texts (FindsCleanly is_clean keeps) old new (Err failure) → is_clean new
      → Steps believed (keeps old) believed (keeps new) (λ before after. FindsPath holds texts before (Failed failure) × (after ≡ before))
  not_found texts failure (inl (refused, same)) clean before state = (
    before,
    record { listed = state.listed; believes = state.believes; keeps = subst (λ (keeper : K). keeps keeper before.kept) (sym same) state.keeps },
    (inl refused, refl),
  )
  not_found texts failure (inr (asked, is, inl did)) clean before state =
      let done = did.1 clean before.kept state.keeps in (
        before,
        record { listed = state.listed; believes = state.believes; keeps = done.0 },
        (inr ((asked, is), done.1), refl),
      )
  not_found texts failure (inr (asked, is, inr (finding, did, memory))) clean before state =
      let done = did.1 clean before.kept state.keeps in (
        before,
        record { listed = state.listed; believes = state.believes; keeps = done.0 },
        (inr ((asked, is), inl memory), refl),
      )

-- ---- listings

module _ {K : Type 0} (keeps : K → Keeping) (old new : K) (believed : Believed) (moment : Option (List ℕ)) where
  pub listed : (at : Option ℤ) (text : Vec ℕ) → IsMomentOf moment at → AnswersWithLines (keeps old) (keeps new) at (Ok text)
      → Steps believed (keeps old) believed (keeps new) (λ before after. ListsHeld moment before (Listed text) × (after ≡ before))
  listed at text asked lists before is =
      let done = lists before.kept is.keeps in (
        before,
        record { listed = is.listed; believes = is.believes; keeps = done.0 },
        ((at, asked, done.1), refl),
      )

  pub not_listed : (at : Option ℤ) (failure : Failure) → IsMomentOf moment at → AnswersWithLines (keeps old) (keeps new) at (Err failure)
      → Steps believed (keeps old) believed (keeps new) (λ before after. ListsHeld moment before (Failed failure) × (after ≡ before))
  not_listed at failure asked lists before is =
      let done = lists before.kept is.keeps in (
        before,
        record { listed = is.listed; believes = is.believes; keeps = done.0 },
        (inr ((at, asked), done.1), refl),
      )

  pub not_asked : (failure : Failure) → IsBadMoment moment failure → Steps believed (keeps old) believed (keeps old) (λ before after. ListsHeld moment before (Failed failure) × (after ≡ before))
  not_asked failure bad before is = (before, is, (inl bad, refl))

-- a keeper's listing, in lines
pub in_lines : (old new : Keeping) (all : Listing) (at : Option ℤ) (result : Result (Vec ℕ) Failure) → AnswersWithListing old new (Ok all)
    → IfOk result (λ text. IdsRise (map seen_held_issuer all.issuers.items) → text.items ≡ listing_text at (seen_listing all))
    → IfErr result (λ failure. failure ≡ NoMemory) → AnswersWithLines old new at result
in_lines old new all at (Ok text) lists lines fails =
    λ kept keeps. let done = lists kept keeps in (done.0, (seen_listing all, done.1, done.2, lines done.2.rise))
in_lines old new all at (Err failure) lists lines fails = λ kept keeps. ((lists kept keeps).0, inl fails)

-- ---- fingerprints

pub believes_more : (old new : Believed) (keeps : Keeping) (print : List ℕ) → new.listed ≡ old.listed → ((prints : List (List ℕ)) → BelievesJust old prints → BelievesJust new (print ∷ prints))
    → Steps old keeps new keeps (λ before after. BelievesMore print before after Told_more)
believes_more old new keeps print same more before is =
    (believing print before, record { listed = subst (λ (listed : ListVerifier). Believes listed before.listed) (sym same) is.listed; believes = more before.prints is.believes; keeps = is.keeps }, refl)

pub believes_same : (old new : Believed) (keeps : Keeping) (print : List ℕ) → new.listed ≡ old.listed → ((prints : List (List ℕ)) → BelievesJust old prints → BelievesJust new prints)
    → Steps old keeps new keeps (λ before after. BelievesMore print before after (Failed NoMemory))
believes_same old new keeps print same still before is =
    (before, record { listed = subst (λ (listed : ListVerifier). Believes listed before.listed) (sym same) is.listed; believes = still before.prints is.believes; keeps = is.keeps }, (refl, refl))

pub forgets : (old new : Believed) (keeps : Keeping) → new.listed ≡ old.listed → ((prints : List (List ℕ)) → Believes old.listed prints → BelievesJust new prints)
    → Steps old keeps new keeps (λ before after. after ≡ forgetting before)
forgets old new keeps same less before is =
    (forgetting before, record { listed = subst (λ (listed : ListVerifier). Believes listed before.listed) (sym same) is.listed; believes = less before.listed is.listed; keeps = is.keeps }, refl)
