-- One run after another is a run.
use Rattle.std.proofs.Common.{◌≡◌, Bool, List, [], ◌∷◌, ◌++◌, Option, Some, None, filter_map, option_to_list, refl, sym, ap, ◌∙◌, append_assoc}
use Rattle.std.specs.List.{cons_option}
use Rattle.statements_facts.specs.Fact.{Fact}
use Rattle.statements_facts.specs.Statement.{Holdings}
use Rattle.statements_facts.specs.Newest.{newer_crl, newer_ocsp, newest_in, KeepsNewest}
use Rattle.path.specs.Query.{Accepts}
use Rattle.relying_agreement.specs.Run.{Event, DeliveryAnswer, FactsOf, facts_taken, Proceeds, StepsMakeARun, PartyHoldsNewest, RunsCompose, EachHoldsNewest}
use Rattle.statements_facts.specs.Coming.{crl_for, ocsp_for}
use Rattle.statements_facts.proofs.Laws.{crls_keep_newest, responses_keep_newest}

cons_joined : {A : Type 0} (o : Option A) (xs ys : List A) → cons_option o (xs ++ ys) ≡ cons_option o xs ++ ys
cons_joined None xs ys = refl
cons_joined (Some x) xs ys = refl

chosen_joined : {A B : Type 0} (f : A → Option B) (xs ys : List A) → filter_map f (xs ++ ys) ≡ filter_map f xs ++ filter_map f ys
chosen_joined f [] ys = refl
chosen_joined f (x ∷ xs) ys = ap (cons_option (f x)) (chosen_joined f xs ys) ∙ cons_joined (f x) (filter_map f xs) (filter_map f ys)

-- the newest of the newest of what came first, and of what came then
composed : {F : Type 0} (newer : F → F → Bool) → KeepsNewest newer → (f : Fact → Option F) (start middle held : Option F) (xs ys : List Fact)
    → middle ≡ newest_in newer (option_to_list start ++ filter_map f xs)
    → held ≡ newest_in newer (option_to_list middle ++ filter_map f ys)
    → held ≡ newest_in newer (option_to_list start ++ filter_map f (xs ++ ys))
composed newer keeps f start middle held xs ys first second =
    second
    ∙ ap (λ m. newest_in newer (option_to_list m ++ filter_map f ys)) first
    ∙ keeps.joined (option_to_list start ++ filter_map f xs) (filter_map f ys)
    ∙ ap (newest_in newer) (append_assoc (option_to_list start) (filter_map f xs) (filter_map f ys) ∙ ap (λ zs. option_to_list start ++ zs) (sym (chosen_joined f xs ys)))

pub runs_compose : RunsCompose
runs_compose first second one two same = record {
  profile = two.profile ∙ ap (λ (h : Holdings). h.profile) same ∙ one.profile;
  crl = λ slot. composed newer_crl crls_keep_newest (crl_for slot) (first.start.crl slot) (second.start.crl slot) (second.held.crl slot) first.taken second.taken
      (ap (λ (h : Holdings). h.crl slot) same ∙ one.crl slot) (two.crl slot);
  ocsp = λ slot. composed newer_ocsp responses_keep_newest (ocsp_for slot) (first.start.ocsp slot) (second.start.ocsp slot) (second.held.ocsp slot) first.taken second.taken
      (ap (λ (h : Holdings). h.ocsp slot) same ∙ one.ocsp slot) (two.ocsp slot);
}

pub each_holds_newest : EachHoldsNewest
each_holds_newest accepts start taken = record { profile = refl; crl = λ slot. refl; ocsp = λ slot. refl }

nothing_taken : {F : Type 0} (newer : F → F → Bool) → KeepsNewest newer → (start : Option F) → start ≡ newest_in newer (option_to_list start ++ [])
nothing_taken newer keeps start = keeps.held start []

proceeds : (facts_of : FactsOf) (accepts : Accepts) (events : List Event) (answers : List DeliveryAnswer) (start held : Holdings)
    → Proceeds facts_of accepts start events answers held
    → PartyHoldsNewest (record { accepts = accepts; start = start; taken = facts_taken facts_of accepts events answers; held = held })
proceeds facts_of accepts [] [] start held same = record {
  profile = ap (λ (h : Holdings). h.profile) same;
  crl = λ slot. ap (λ (h : Holdings). h.crl slot) same ∙ nothing_taken newer_crl crls_keep_newest (start.crl slot);
  ocsp = λ slot. ap (λ (h : Holdings). h.ocsp slot) same ∙ nothing_taken newer_ocsp responses_keep_newest (start.ocsp slot);
}
proceeds facts_of accepts [] (answer ∷ answers) start held none = absurd none
proceeds facts_of accepts (Event.Restart ∷ events) answers start held rest = proceeds facts_of accepts events answers start held rest
proceeds facts_of accepts (Event.Deliver issuer statement ∷ events) [] start held none = absurd none
proceeds facts_of accepts (Event.Deliver issuer statement ∷ events) (DeliveryAnswer.Refused ∷ answers) start held rest = proceeds facts_of accepts events answers start held rest
proceeds facts_of accepts (Event.Deliver issuer statement ∷ events) (DeliveryAnswer.Taken ∷ answers) start held (next, newest, rest) =
    runs_compose
    (record { accepts = accepts; start = start; taken = facts_of accepts issuer statement; held = next })
    (record { accepts = accepts; start = next; taken = facts_taken facts_of accepts events answers; held = held })
    newest (proceeds facts_of accepts events answers next held rest) refl

pub steps_make_a_run : StepsMakeARun
steps_make_a_run facts_of accepts events answers start held steps =
    record { taken = refl; newest = proceeds facts_of accepts events answers start held steps }
