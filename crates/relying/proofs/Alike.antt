-- Two nodes find the same, by what their public calls say.
use Rattle.std.proofs.Common.{◌≡◌, ◌≢◌, ◌⊎◌, inl, inr, Bool, List, Result, IsTrue, refl, sym, subst, ap, ◌∙◌}
use Rattle.sqlite_disk.specs.declared.Disk.{Ghosts}
use Rattle.statements_facts.specs.declared.profile.Profile.{Profile}
use Rattle.statements_facts.specs.Statement.{Holdings}
use Rattle.statements_facts.specs.declared.counts.Counts.{Counts}
use Rattle.path.specs.Query.{Query, Accepts}
use Rattle.path_issuers.specs.Search.{Search, Candidate, HasNoValid}
use Rattle.relying_agreement.specs.Run.{Event}
use Rattle.relying_search.specs.Agreement.{PartiesFindTheSame}
use Rattle.relying_search.specs.Finding.{Finding, FindingIsOne, IsFinding, seen_finding}
use Rattle.relying_search.specs.declared.finding.Finding as code
use Rattle.relying_search.specs.declared.finding.FindingBudget.{FindingBudget}
use Rattle.relying_verdicts.specs.Looking.{IsFoundOnlyIfOpen}
use Rattle.relying.specs.Agreed.{party_of}
use Rattle.relying.specs.Found.{GaveFinding, NodesFindTheSame}
use Rattle.relying.specs.View.{stored}
use Rattle.relying.specs.declared.fault.DeliverFault.{DeliverFault}
use Rattle.relying.specs.declared.node.Node.{Node}

-- the connection was open, or no path is valid, whatever is held
which : (accepts : Accepts) (s : Search) (budget : FindingBudget) (live : Bool) (found : Finding) → found ≢ Finding.GaveUp → IsFoundOnlyIfOpen accepts s budget live found
    → IsTrue live ⊎ ((found ≡ Finding.NotFound) × HasNoValid accepts s)
which accepts s budget live (Finding.Found c verdict) ended opened = inl opened
which accepts s budget live Finding.NotFound ended none = inr (refl, none)
which accepts s budget live Finding.GaveUp ended opened = absurd (ended refl)

module _ {V D : Type 0} {g : Ghosts D} (one_finding : FindingIsOne) (profile : Profile) (accepts : Accepts) (s : Search) (budget : FindingBudget) where
  -- where no path is valid, none is found
  none_found : (events : List Event) (answers : List (Result Counts DeliverFault)) (start : Holdings) (begun ran asked : Node V D g) (found : code.Finding)
      → HasNoValid accepts s → GaveFinding profile accepts s budget events answers start begun ran asked found → seen_finding found ≡ Finding.NotFound
  none_found events answers start begun ran asked found none gave =
      elim (which accepts s budget (stored ran).is_open (seen_finding found) gave.ended gave.opens) [
        | inl live ↦
            let it = gave.came.ended live start gave.begins in
            one_finding accepts (λ query. it.held) s budget budget (seen_finding found) Finding.NotFound (gave.looks.1 it.held it.store) none gave.ended (λ e. cc)
        | inr too ↦ too.0
      ]

pub nodes_find_the_same : {V D : Type 0} {g : Ghosts D} {W E : Type 0} {h : Ghosts E} → FindingIsOne → PartiesFindTheSame → NodesFindTheSame V D g W E h
nodes_find_the_same one_finding parties profile other_profile accepts s budget others_budget events others answers others_answers start others_start begun ran asked other_begun other_ran other_asked found other_found one two premises =
    elim (which accepts s budget (stored ran).is_open (seen_finding found) one.ended one.opens) [
      | inr none ↦ none.0 ∙ sym (none_found one_finding other_profile accepts s others_budget others others_answers others_start other_begun other_ran other_asked other_found none.1 two)
      | inl live ↦ elim (which accepts s others_budget (stored other_ran).is_open (seen_finding other_found) two.ended two.opens) [
        | inr none ↦ none_found one_finding profile accepts s budget events answers start begun ran asked found none.1 one ∙ sym none.0
        | inl other_live ↦
            let it = one.came.ended live start one.begins in
            let their = two.came.ended other_live others_start two.begins in
            let both = premises it.held their.held it.store their.store in
            parties accepts (λ query. party_of profile accepts events answers start it.held) (λ query. party_of other_profile accepts others others_answers others_start their.held)
            s budget others_budget (seen_finding found) (seen_finding other_found)
            (λ c valid. record { judges = refl; other_judges = refl; one_newest = it.newest.newest; other_newest = their.newest.newest; consistent = (both c valid).0; same = (both c valid).1 })
            (one.looks.1 it.held it.store) (two.looks.1 their.held their.store) one.ended two.ended
      ]
    ]
