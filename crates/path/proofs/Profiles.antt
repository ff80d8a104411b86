-- What is read and refused in the two profiles.
use Rattle.std.proofs.Common.{true, ◌≡◌, ◌⊎◌, ℕ, zero, suc, ◌+◌, ◌<◌, ℤ, List, [], ◌∷◌, map, get_or, add-one, arith, refl, sym, ap, subst, ◌∙◌, inl, inr, Option, Result, Ok, Err, IfOk, IfErr, is_ok, IsOk}
use Rattle.std.specs.List.{AllZip}
use Rattle.asn.proofs.Laws.{ok_is}
use Rattle.statements_facts.specs.declared.profile.Profile.TheVariants.{Stated, Wide}
use Rattle.cert.specs.declared.fault.CertFault.{CertFault}
use Rattle.cert.specs.declared.fault.CertFault.TheVariants.{Refused}
use Rattle.cert.specs.declared.fault.CertRule.{CertRule}
use Rattle.cert.specs.Certificate.{Certificate, certificate}
use Rattle.path.specs.InProfile.{wide_certificate, IsWidened}
use Rattle.path.proofs.WideCertificates.{was_read, refused_too, for_own}
use Rattle.path.specs.Query.{Query}
use Rattle.path.specs.Reading.{IsFirstRefused}
use Rattle.path.specs.declared.options.Options.{Options}
use Rattle.path.specs.Options.{stated_options}
use Rattle.path.specs.ProfileReading.{AreReadIn, IsQueryRead, IsPathRefused, IsFirstRefusedIn, QueryIsUnique, StatedQueryIsAsRead, StatedRefusalIsAsRead, WideQueryIsStatedWidened, IsRefusedInWide, WideRefusalIsStatedOrItsOwn, StatedQueryIsRefusedInWide}
use Rattle.path.proofs.Readings.{is_read}

abbrev Reading : Type 0
Reading = Result Certificate (CertRule × ℕ)

abbrev done : Certificate → Reading
done c = Ok c

-- ---- one question

read_once : (one other : List Certificate) → map done one ≡ map done other → one ≡ other
read_once [] [] e = refl
read_once [] (y ∷ other) e = absurd cc
read_once (x ∷ one) [] e = absurd cc
read_once (x ∷ one) (y ∷ other) e =
    let first : done x ≡ done y = cc in
    let rest : map done one ≡ map done other = cc in
    ap (λ (c : Certificate). c ∷ one) (ok_is {E = CertRule × ℕ} x y first) ∙ ap (◌∷◌ y) (read_once one other rest)

same_query : (one other : Query) → one.anchor ≡ other.anchor → one.certificates ≡ other.certificates → one.moment ≡ other.moment → one.purpose ≡ other.purpose → one.options ≡ other.options → one ≡ other
same_query one other anchor certificates moment purpose options =
    ap (λ (a : Certificate). record one { anchor = a }) anchor
    ∙ ap (λ (c : List Certificate). record one { anchor = other.anchor; certificates = c }) certificates
    ∙ ap (λ (m : ℤ). record other { moment = m; purpose = one.purpose; options = one.options }) moment
    ∙ ap (λ (p : Option (List ℕ)). record other { purpose = p; options = one.options }) purpose
    ∙ ap (λ (o : Options). record other { options = o }) options

pub unique : (options : Options) → QueryIsUnique options
unique options anchor texts moment purpose one other is also =
    same_query one other (ok_is {E = CertRule × ℕ} one.anchor other.anchor (sym is.anchor_is ∙ also.anchor_is)) (read_once one.certificates other.certificates (sym is.path_is ∙ also.path_is))
    (is.moment_is ∙ sym also.moment_is) (is.purpose_is ∙ sym also.purpose_is) (is.options_is ∙ sym also.options_is)

-- ---- the stated profile

pub stated : StatedQueryIsAsRead
stated anchor texts moment purpose query = (
  λ is. (is.anchor_is, is.path_is, is.moment_is, is.purpose_is, is.options_is),
  λ (anchor_is, path_is, moment_is, purpose_is, options_is). record { anchor_is = anchor_is; path_is = path_is; moment_is = moment_is; purpose_is = purpose_is; options_is = options_is },
)

pub stated_refusal : StatedRefusalIsAsRead
stated_refusal anchor texts j fault = (first, back j) where
  behind : (i : ℕ) → IsOk (certificate anchor) → IsPathRefused Stated texts i fault → IsFirstRefused (anchor ∷ texts) (i + 1) fault
  behind i ok is = record { within = let below = is.within in omega arith; refused = rw add-one is.refused; before = before } where
    before : (k : ℕ) → k < i + 1 → IsOk (certificate (get_or (anchor ∷ texts) k []))
    before zero below = ok
    before (suc k) below = is.before k (omega arith)

  first : IsFirstRefusedIn Stated anchor texts j fault → IsFirstRefused (anchor ∷ texts) j fault
  first (inl (none, fails)) = subst (λ (n : ℕ). IsFirstRefused (anchor ∷ texts) n fault) (sym none) record { within = omega arith; refused = fails; before = λ i below. absurd (omega arith) }
  first (inr (i, e, ok, is)) = subst (λ (n : ℕ). IsFirstRefused (anchor ∷ texts) n fault) (sym e) (behind i ok is)

  back : (n : ℕ) → IsFirstRefused (anchor ∷ texts) n fault → IsFirstRefusedIn Stated anchor texts n fault
  back zero is = inl (refl, is.refused)
  back (suc i) is = inr (i, sym (add-one i), is.before 0 (omega arith), record { within = let below = is.within in omega arith; refused = is.refused; before = λ k below. is.before (suc k) (omega arith) })

-- What is read and refused with the stated options is what Query::read has.
pub path_is_stated : {A E : Type 0} (view : A → Query) (result : Result A E) (anchor : List ℕ) (texts : List (List ℕ)) (moment : ℤ) (purpose : Option (List ℕ))
    → IfOk result (λ query. IsQueryRead stated_options anchor texts moment purpose (view query)) → IfOk result (λ query. map certificate texts ≡ map done (view query).certificates)
path_is_stated view (Ok query) anchor texts moment purpose is = is.path_is
path_is_stated view (Err fault) anchor texts moment purpose is = tt

pub refused_as_stated : {A E : Type 0} (number : E → ℕ) (fault_of : E → CertFault) (result : Result A E) (anchor : List ℕ) (texts : List (List ℕ))
    → IfErr result (λ refusal. IsFirstRefusedIn Stated anchor texts (number refusal) (fault_of refusal)) → IfErr result (λ refusal. IsFirstRefused (anchor ∷ texts) (number refusal) (fault_of refusal))
refused_as_stated number fault_of (Ok query) anchor texts is = tt
refused_as_stated number fault_of (Err refusal) anchor texts is = (stated_refusal anchor texts (number refusal) (fault_of refusal)).0 is

-- ---- the wide one

abbrev AreStated : List (List ℕ) → List Certificate → Type 0
AreStated texts taken = (read : List Certificate) × AreReadIn Stated texts read × AllZip IsWidened read taken

stated_too : (texts : List (List ℕ)) (taken : List Certificate) → AreReadIn Wide texts taken → AreStated texts taken
stated_too [] [] e = ([], refl, tt)
stated_too [] (one ∷ taken) e = absurd cc
stated_too (text ∷ texts) [] e = absurd cc
stated_too (text ∷ texts) (one ∷ taken) e =
    let head : wide_certificate text ≡ done one = cc in
    let rest : map wide_certificate texts ≡ map done taken = cc in
    let was = was_read text one head in
    let others = stated_too texts taken rest in
    (was.0 ∷ others.0, (λ k. was.1 k ∷ others.1 k), (was.2, others.2))

pub wide : WideQueryIsStatedWidened
wide anchor texts moment purpose taken is =
    let path = stated_too texts taken.certificates is.path_is in (
      record taken { certificates = path.0; options = stated_options },
      record { anchor_is = is.anchor_is; path_is = path.1; moment_is = is.moment_is; purpose_is = is.purpose_is; options_is = refl },
      record { anchor = refl; certificates = path.2; moment = refl; purpose = refl },
    )

still_read : (text : List ℕ) (stated : Reading) → certificate text ≡ stated → IsOk (wide_certificate text) → IsOk stated
still_read text (Ok read) e ok = refl
still_read text (Err fault) e ok = absurd (let refusal = refused_too text fault e in let fine : is_ok (wide_certificate text) ≡ true = ok in cc)

abbrev Told : List ℕ → List (List ℕ) → ℕ → CertRule → ℕ → Type 0
Told anchor texts j rule at = IsFirstRefusedIn Stated anchor texts j (Refused rule at) ⊎ IsRefusedInWide texts j rule at

by_certificate : (anchor : List ℕ) (texts : List (List ℕ)) (j i : ℕ) (rule : CertRule) (at : ℕ) (read : Reading) → certificate (get_or texts i []) ≡ read → IsOk (certificate anchor) → j ≡ i + 1
    → IsPathRefused Wide texts i (Refused rule at) → Told anchor texts j rule at
by_certificate anchor texts j i rule at (Ok read) reads ok e is =
    inr record { index = i; number = e; read = read; is_read = reads; refused = for_own (get_or texts i []) read (rule, at) reads is.refused }
by_certificate anchor texts j i rule at (Err fault) reads ok e is =
    let refusal = refused_too (get_or texts i []) fault reads in
    inl (inr (
      i,
      e,
      ok,
      record {
        within = is.within;
        refused = reads ∙ sym refusal ∙ is.refused;
        before = λ k below. still_read (get_or texts k []) (certificate (get_or texts k [])) refl (is.before k below);
      },
    ))

pub refusal : WideRefusalIsStatedOrItsOwn
refusal anchor texts j rule at (inl (none, fails)) = inl (inl (none, fails))
refusal anchor texts j rule at (inr (i, e, ok, is)) = by_certificate anchor texts j i rule at (certificate (get_or texts i [])) refl ok e is

not_refused : (anchor : List ℕ) (texts : List (List ℕ)) (moment : ℤ) (purpose : Option (List ℕ)) (read : Query) (j : ℕ) (rule : CertRule) (at : ℕ)
    → IsQueryRead stated_options anchor texts moment purpose read → IsFirstRefusedIn Stated anchor texts j (Refused rule at) → ⊥
not_refused anchor texts moment purpose read j rule at is (inl (none, fails)) = let reads = is.anchor_is in absurd cc
not_refused anchor texts moment purpose read j rule at is (inr (i, e, ok, first)) =
    let fine : is_ok (certificate (get_or texts i [])) ≡ true = is_read certificate texts read.certificates is.path_is i first.within in
    let fails = first.refused in
    absurd cc

pub wide_alone : StatedQueryIsRefusedInWide
wide_alone anchor texts moment purpose read j rule at is first = of_own (refusal anchor texts j rule at first) where
  of_own : Told anchor texts j rule at → IsRefusedInWide texts j rule at
  of_own (inl stated) = absurd (not_refused anchor texts moment purpose read j rule at is stated)
  of_own (inr own) = own
