-- The walk over the bases of a certificate gives what they say, or the first that is malformed.
use Rattle.std.proofs.Common.{◌≡◌, ◌⊎◌, ◌↔◌, ℕ, List, [], ◌∷◌, ◌++◌, Option, None, Some, Result, Ok, Err, refl, sym, ap, subst, ◌∙◌, inl, inr, append-nil, append_assoc}
use Rattle.std.specs.Prelude.{IfOk, IfErr}
use Rattle.asn.specs.Place.{body}
use Rattle.asn.specs.Walk.{◌>>=◌, or_fault}
use Rattle.asn.proofs.Laws.{bind_ok, ok_is}
use Rattle.names.specs.NameRule.TheVariants.{MailForm, UriForm}
use Rattle.cert.specs.declared.fault.CertFault.{CertFault}
use Rattle.cert.specs.declared.fault.CertFault.TheVariants.{Refused, Memory}
use Rattle.cert.specs.declared.fault.CertRule.{CertRule}
use Rattle.cert.specs.declared.fault.CertRule.TheVariants.{Name}
use Rattle.cert.specs.ExtensionValues.{ExtensionValues}
use Rattle.cert.specs.Fault.{GivesUnlessFull, FailsUnlessFull}
use Rattle.names_hosts.specs.Hosts.{HostNames, host_base_of}
use Rattle.names_hosts.specs.Mail.{MailNames, mail_base_of}
use Rattle.names_hosts.proofs.Laws.{mail_base_is_exact, host_base_is_exact}
use Rattle.cert_hosts.specs.declared.base_lists.BaseLists as code
use Rattle.cert_hosts.specs.BaseLists.{BaseLists, seen_lists, no_bases, with_mail_base, with_host_base}
use Rattle.cert_hosts.specs.Bases.{Base, mail_base, host_base, bases_in}
use Rattle.cert_hosts.specs.Reading.{AreSaid, TellsWith, IsMalformed, IsFirstMalformed, IsFirstFor, SaysBases, IsRefusedIn}
use Rattle.cert_hosts.specs.HostsWalk.{with_base, with_bases, base_lists}
use Rattle.cert_hosts.proofs.Told.{mail_base_told, host_base_told, none_said}
use Rattle.cert_hosts.proofs.OneAnswer.{one_answer, either, one_refusal}

none_some : {A : Type 0} (x : A) → None ≡ Some x → ⊥
none_some x e = cc

refusal_is : (rule other : CertRule) (at place : ℕ) → ◌≡◌ {A = Result BaseLists (CertRule × ℕ)} (Err (other, place)) (Err (rule, at))
    → (rule ≡ other) × (at ≡ place)
refusal_is rule other at place e =
    let same : (other, place) ≡ (rule, at) = cc in
    (sym (ap (λ (p : CertRule × ℕ). p.0) same), sym (ap (λ (p : CertRule × ℕ). p.1) same))

-- one value of a form, if the text has it
then_ok : {A : Type 0} (o : Option A) (fault : CertRule) (at : ℕ) (f : A → BaseLists) (y : BaseLists)
    → (or_fault o fault at >>= λ x. Ok (f x)) ≡ Ok y → (x : A) × (o ≡ Some x) × (f x ≡ y)
then_ok None fault at f y e = absurd cc
then_ok (Some x) fault at f y e = (x, refl, ok_is {E = CertRule × ℕ} (f x) y e)

then_err : {A : Type 0} (o : Option A) (fault : CertRule) (at : ℕ) (f : A → BaseLists) (rule : CertRule) (place : ℕ)
    → (or_fault o fault at >>= λ x. Ok (f x)) ≡ Err (rule, place) → (o ≡ None) × (rule ≡ fault) × (place ≡ at)
then_err None fault at f rule place e = let same = refusal_is rule fault place at e in (refl, same.0, same.1)
then_err (Some x) fault at f rule place e = absurd cc

bind_err : {A B E : Type 0} (r : Result A E) (f : A → Result B E) (d : E) → (r >>= f) ≡ Err d → (r ≡ Err d) ⊎ ((x : A) × (r ≡ Ok x) × (f x ≡ Err d))
bind_err (Ok x) f d e = inr (x, refl, e)
bind_err (Err c) f d e = let same : c ≡ d = cc in inl (ap (λ z. Err z) same)

tells : (base : Base) (old new : BaseLists) → with_base old base ≡ Ok new → TellsWith base old new
tells (mail_base permitted value) old new e =
    let s = then_ok (mail_base_of (body value)) (Name MailForm) value.at (λ (names : MailNames). with_mail_base permitted names old) new e in
    subst (TellsWith (mail_base permitted value) old) s.2
    (mail_base_told permitted value s.0 old ((mail_base_is_exact (body value) s.0).0 s.1))
tells (host_base permitted value) old new e =
    let s = then_ok (host_base_of (body value)) (Name UriForm) value.at (λ (names : HostNames). with_host_base permitted names old) new e in
    subst (TellsWith (host_base permitted value) old) s.2
    (host_base_told permitted value s.0 old ((host_base_is_exact (body value) s.0).0 s.1))

malformed : (base : Base) (old : BaseLists) (rule : CertRule) (at : ℕ) → with_base old base ≡ Err (rule, at) → IsMalformed base rule at
malformed (mail_base permitted value) old rule at e =
    let s = then_err (mail_base_of (body value)) (Name MailForm) value.at (λ (names : MailNames). with_mail_base permitted names old) rule at e in
    (λ names is. none_some names (sym s.0 ∙ (mail_base_is_exact (body value) names).1 is), s.1, s.2)
malformed (host_base permitted value) old rule at e =
    let s = then_err (host_base_of (body value)) (Name UriForm) value.at (λ (names : HostNames). with_host_base permitted names old) rule at e in
    (λ names is. none_some names (sym s.0 ∙ (host_base_is_exact (body value) names).1 is), s.1, s.2)

-- all bases
walk_tells : (before : List Base) (old : BaseLists) (bases : List Base) (new : BaseLists) → AreSaid before old
    → with_bases old bases ≡ Ok new → AreSaid (before ++ bases) new
walk_tells before old [] new said e =
    subst (λ (l : List Base). AreSaid l new) (sym (append-nil before)) (subst (AreSaid before) (ok_is {E = CertRule × ℕ} old new e) said)
walk_tells before old (base ∷ bases) new said e =
    let a = bind_ok (with_base old base) (λ next. with_bases next bases) new e in
    subst (λ (l : List Base). AreSaid l new) (append_assoc before (base ∷ []) bases)
    (walk_tells (before ++ base ∷ []) a.0 bases new (tells base old a.0 a.1 before said) a.2)

walk_stops : (before : List Base) (old : BaseLists) (bases : List Base) (rule : CertRule) (at : ℕ) → AreSaid before old
    → with_bases old bases ≡ Err (rule, at) → IsFirstMalformed (before ++ bases) rule at
walk_stops before old [] rule at said e = absurd cc
walk_stops before old (base ∷ bases) rule at said e =
    elim (bind_err (with_base old base) (λ next. with_bases next bases) (rule, at) e) [
      | inl bad ↦ record {
        before = before;
        base = base;
        behind = bases;
        joined = refl;
        read = old;
        well_formed = said;
        malformed = malformed base old rule at bad;
      }
      | inr a ↦
          subst (λ (l : List Base). IsFirstMalformed l rule at) (append_assoc before (base ∷ []) bases)
          (walk_stops (before ++ base ∷ []) a.0 bases rule at (tells base old a.0 a.1 before said) a.2)
    ]

module _ (values : ExtensionValues) where
  lists_from : (lists : BaseLists) → base_lists values ≡ Ok lists → SaysBases values lists
  unfolding base_lists
  lists_from lists e =
      let a = bind_ok (bases_in values) (λ bases. with_bases no_bases bases) lists e in
      record { bases = a.0; found = a.1; said = walk_tells [] no_bases a.0 lists none_said a.2 }

  refusal_from : (rule : CertRule) (at : ℕ) → base_lists values ≡ Err (rule, at) → IsRefusedIn values rule at
  unfolding base_lists
  refusal_from rule at e =
      elim (bind_err (bases_in values) (λ bases. with_bases no_bases bases) (rule, at) e) [
        | inl fails ↦ inl fails
        | inr a ↦ inr (record { bases = a.0; found = a.1; first = walk_stops [] no_bases a.0 rule at none_said a.2 })
      ]

  -- what is said is given, since the walk gives something, and one thing alone is said
  lists_again : (lists : BaseLists) (r : Result BaseLists (CertRule × ℕ)) → base_lists values ≡ r → SaysBases values lists → r ≡ Ok lists
  lists_again lists (Ok other) e says = ap (λ (l : BaseLists). Ok l) (one_answer values other lists (lists_from other e) says)
  lists_again lists (Err refusal) e says = absurd (either values lists refusal.0 refusal.1 says (refusal_from refusal.0 refusal.1 e))

  refusal_again : (rule : CertRule) (at : ℕ) (r : Result BaseLists (CertRule × ℕ)) → base_lists values ≡ r → IsRefusedIn values rule at → r ≡ Err (rule, at)
  refusal_again rule at (Ok lists) e bad = absurd (either values lists rule at (lists_from lists e) bad)
  refusal_again rule at (Err refusal) e bad =
      let same = one_refusal values refusal.0 rule refusal.1 at (refusal_from refusal.0 refusal.1 e) bad in
      ap (λ (r : CertRule). Err (r, refusal.1)) same.0 ∙ ap (λ (i : ℕ). Err (rule, i)) same.1

  pub lists_are_exact : (lists : BaseLists) → (base_lists values ≡ Ok lists) ↔ SaysBases values lists
  lists_are_exact lists = (lists_from lists, lists_again lists (base_lists values) refl)

  pub lists_are_refused : (rule : CertRule) (at : ℕ) → (base_lists values ≡ Err (rule, at)) ↔ IsRefusedIn values rule at
  lists_are_refused rule at = (refusal_from rule at, refusal_again rule at (base_lists values) refl)

  -- what the code answered of the bases is what the walk gives
  pub gives_fault : (fault : CertFault) → FailsUnlessFull fault (bases_in values) → FailsUnlessFull fault (base_lists values)
  gives_fault Memory e = tt
  gives_fault (Refused rule at) e = (lists_are_refused rule at).1 (inl e)

  pub gives_lists : (bases : List Base) (result : Result code.BaseLists CertFault) → bases_in values ≡ Ok bases
      → IfOk result (λ told. AreSaid bases (seen_lists told)) → IfErr result (λ fault. IsFirstFor bases fault)
      → GivesUnlessFull seen_lists result (base_lists values)
  gives_lists bases (Ok told) found said first = (lists_are_exact (seen_lists told)).1 (record { bases = bases; found = found; said = said })
  gives_lists bases (Err Memory) found said first = tt
  gives_lists bases (Err (Refused rule at)) found said first = (lists_are_refused rule at).1 (inr (record { bases = bases; found = found; first = first }))
