-- Tests of equality, for verdicts on a valid path and for what is held of a certificate.
use Rattle.std.proofs.Common.{◌≡◌, ◌==◌, ◌&&◌, ℕ, zero, suc, Bool, false, List, Option, Some, None, Decides, int_eq, refl, sym, ap, ◌∙◌, true≢false}
use Rattle.std.specs.Cmp.Lexicographic.{pointwise}
use Rattle.std.specs.Option.{option_eq}
use Rattle.std.proofs.lemmas.Slice.Eq.{slice_eq-Decides}
use Rattle.std.proofs.lemmas.Option.{none-some, same_Some}
use Rattle.std.proofs.lemmas.Bool.Decides.{Decides-and, Decides-like, Decides-eqb, Decides-int_eq}
use Rattle.statements_facts.specs.declared.single.Status.{Status}
use Rattle.statements_facts.specs.declared.single.Status.TheVariants as said
use Rattle.statements_facts.specs.Statement.{Window, Times, OcspFact, CrlAnswer}
use Rattle.relying_agreement.specs.declared.verdict.Verdict.{Verdict}
use Rattle.relying_agreement.specs.declared.verdict.Verdict.TheVariants.{Invalid, Revoked, Unknown, Valid}
use Rattle.relying_agreement.specs.Status.{Answers}
use Rattle.relying_agreement.proofs.ValidLaws.{is_invalid}

option_decides : {A : Type 0} (test : A → A → Bool) → ((x y : A) → Decides (test x y) (x ≡ y)) → (a b : Option A) → Decides (option_eq test a b) (a ≡ b)
option_decides test each None None = (λ e. refl, λ e. refl)
option_decides test each None (Some y) = (λ e. absurd (true≢false (sym e)), λ e. absurd (none-some y e))
option_decides test each (Some x) None = (λ e. absurd (true≢false (sym e)), λ e. absurd (none-some x (sym e)))
option_decides test each (Some x) (Some y) = (λ e. ap Some ((each x y).0 e), λ e. (each x y).1 (same_Some x y e))

-- ---- verdicts

abbrev verdict_kind : Verdict → ℕ
verdict_kind (Invalid j reason) = 3
verdict_kind (Revoked j reason) = 0
verdict_kind (Unknown j) = 1
verdict_kind Valid = 2

abbrev verdict_place : Verdict → ℕ
verdict_place (Invalid j reason) = j
verdict_place (Revoked j reason) = j
verdict_place (Unknown j) = j
verdict_place Valid = 0

abbrev verdict_reason : Verdict → ℕ
verdict_reason (Revoked j reason) = reason
verdict_reason other = 0

abbrev verdict_from_parts : ℕ → ℕ → ℕ → Verdict
verdict_from_parts zero j reason = Revoked j reason
verdict_from_parts (suc zero) j reason = Unknown j
verdict_from_parts (suc (suc more)) j reason = Valid

verdict_again : (v : Verdict) → is_invalid v ≡ false → verdict_from_parts (verdict_kind v) (verdict_place v) (verdict_reason v) ≡ v
verdict_again (Invalid j reason) on_valid_path = absurd (true≢false on_valid_path)
verdict_again (Revoked j reason) on_valid_path = refl
verdict_again (Unknown j) on_valid_path = refl
verdict_again Valid on_valid_path = refl

abbrev pub same_verdict : Verdict → Verdict → Bool
same_verdict v w = verdict_kind v == verdict_kind w && (verdict_place v == verdict_place w && verdict_reason v == verdict_reason w)

pub verdict_decides : (v w : Verdict) → is_invalid v ≡ false → is_invalid w ≡ false → Decides (same_verdict v w) (v ≡ w)
verdict_decides v w on_v on_w =
    Decides-like (same_verdict v w)
    (λ (kind, (place, reason)). sym (verdict_again v on_v) ∙ (λ i. verdict_from_parts (kind i) (place i) (reason i)) ∙ verdict_again w on_w)
    (λ e. (ap verdict_kind e, (ap verdict_place e, ap verdict_reason e)))
    (Decides-and _ _ (Decides-eqb (verdict_kind v) (verdict_kind w))
    (Decides-and _ _ (Decides-eqb (verdict_place v) (verdict_place w)) (Decides-eqb (verdict_reason v) (verdict_reason w))))

-- ---- answers

abbrev status_kind : Status → ℕ
status_kind said.Good = 0
status_kind (said.Revoked reason) = 1
status_kind said.Unknown = 2

abbrev status_reason : Status → ℕ
status_reason said.Good = 0
status_reason (said.Revoked reason) = reason
status_reason said.Unknown = 0

abbrev status_from : ℕ → ℕ → Status
status_from zero reason = said.Good
status_from (suc zero) reason = said.Revoked reason
status_from (suc (suc more)) reason = said.Unknown

status_again : (s : Status) → status_from (status_kind s) (status_reason s) ≡ s
status_again said.Good = refl
status_again (said.Revoked reason) = refl
status_again said.Unknown = refl

abbrev same_status : Status → Status → Bool
same_status a b = status_kind a == status_kind b && status_reason a == status_reason b

status_decides : (a b : Status) → Decides (same_status a b) (a ≡ b)
status_decides a b =
    Decides-like (same_status a b)
    (λ (kind, reason). sym (status_again a) ∙ (λ i. status_from (kind i) (reason i)) ∙ status_again b)
    (λ e. (ap status_kind e, ap status_reason e))
    (Decides-and _ _ (Decides-eqb (status_kind a) (status_kind b)) (Decides-eqb (status_reason a) (status_reason b)))

abbrev same_window : Window → Window → Bool
same_window a b = int_eq a.from b.from && int_eq a.until b.until

window_decides : (a b : Window) → Decides (same_window a b) (a ≡ b)
window_decides a b =
    Decides-like (same_window a b)
    (λ (from, until). λ i. record { from = from i; until = until i })
    (λ e. (ap (λ (w : Window). w.from) e, ap (λ (w : Window). w.until) e))
    (Decides-and _ _ (Decides-int_eq a.from b.from) (Decides-int_eq a.until b.until))

abbrev same_times : Times → Times → Bool
same_times a b = int_eq a.this_update b.this_update && int_eq a.produced_at b.produced_at

times_decides : (a b : Times) → Decides (same_times a b) (a ≡ b)
times_decides a b =
    Decides-like (same_times a b)
    (λ (this, produced). λ i. record { this_update = this i; produced_at = produced i })
    (λ e. (ap (λ (t : Times). t.this_update) e, ap (λ (t : Times). t.produced_at) e))
    (Decides-and _ _ (Decides-int_eq a.this_update b.this_update) (Decides-int_eq a.produced_at b.produced_at))

abbrev same_reason : Option ℕ → Option ℕ → Bool
same_reason a b = option_eq ◌==◌ a b

abbrev same_crl : CrlAnswer → CrlAnswer → Bool
same_crl a b = a.number == b.number && (same_window a.window b.window && same_reason a.reason b.reason)

crl_decides : (a b : CrlAnswer) → Decides (same_crl a b) (a ≡ b)
crl_decides a b =
    Decides-like (same_crl a b)
    (λ (number, (window, reason)). λ i. record { number = number i; window = window i; reason = reason i })
    (λ e. (ap (λ (c : CrlAnswer). c.number) e, (ap (λ (c : CrlAnswer). c.window) e, ap (λ (c : CrlAnswer). c.reason) e)))
    (Decides-and _ _ (Decides-eqb a.number b.number)
    (Decides-and _ _ (window_decides a.window b.window) (option_decides ◌==◌ Decides-eqb a.reason b.reason)))

abbrev same_response : OcspFact → OcspFact → Bool
same_response a b = same_times a.times b.times && (same_window a.window b.window && same_status a.status b.status)

response_decides : (a b : OcspFact) → Decides (same_response a b) (a ≡ b)
response_decides a b =
    Decides-like (same_response a b)
    (λ (times, (window, status)). λ i. record { times = times i; window = window i; status = status i })
    (λ e. (ap (λ (r : OcspFact). r.times) e, (ap (λ (r : OcspFact). r.window) e, ap (λ (r : OcspFact). r.status) e)))
    (Decides-and _ _ (times_decides a.times b.times) (Decides-and _ _ (window_decides a.window b.window) (status_decides a.status b.status)))

abbrev pub same_lists : List (Option CrlAnswer) → List (Option CrlAnswer) → Bool
same_lists a b = pointwise (λ x y. option_eq same_crl x y) a b

lists_decide : (a b : List (Option CrlAnswer)) → Decides (same_lists a b) (a ≡ b)
lists_decide a b = slice_eq-Decides (option_decides same_crl crl_decides) a b (same_lists a b) refl

abbrev pub same_answers : Answers → Answers → Bool
same_answers a b = same_lists a.lists b.lists && (same_lists a.limited b.limited && option_eq same_response a.ocsp b.ocsp)

pub answers_decide : (a b : Answers) → Decides (same_answers a b) (a ≡ b)
answers_decide a b =
    Decides-like (same_answers a b)
    (λ (lists, (limited, ocsp)). λ i. record { lists = lists i; limited = limited i; ocsp = ocsp i })
    (λ e. (ap (λ (x : Answers). x.lists) e, (ap (λ (x : Answers). x.limited) e, ap (λ (x : Answers). x.ocsp) e)))
    (Decides-and _ _ (lists_decide a.lists b.lists)
    (Decides-and _ _ (lists_decide a.limited b.limited) (option_decides same_response response_decides a.ocsp b.ocsp)))
