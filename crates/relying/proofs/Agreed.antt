-- Two parties agree, by what their public calls say.
use Rattle.std.proofs.Common.{◌≡◌, ◌⊎◌, inl, inr, ℕ, Bool, List, Result, IsTrue, refl, sym, subst}
use Rattle.sqlite_disk.specs.declared.Disk.{Ghosts}
use Rattle.statements_facts.specs.declared.profile.Profile.{Profile}
use Rattle.statements_facts.specs.Statement.{Holdings}
use Rattle.statements_facts.specs.declared.counts.Counts.{Counts}
use Rattle.path.specs.declared.reason.Outcome.TheVariants.{Bad}
use Rattle.path.specs.declared.reason.Reason.{Reason}
use Rattle.path.specs.Query.{Query, Accepts}
use Rattle.path.specs.Validity.{IsFirstFailure}
use Rattle.relying_agreement.specs.Agreement.{PartiesAgree}
use Rattle.relying_agreement.specs.Run.{EachHoldsNewest, Event, after_taking}
use Rattle.relying_agreement.specs.Verdict.{IsVerdict, ValidExactlyWhere, VerdictIsOne}
use Rattle.relying_agreement.specs.declared.verdict.Verdict.{Verdict}
use Rattle.relying_agreement.specs.declared.verdict.Verdict.TheVariants.{Invalid, Revoked, Unknown, Valid}
use Rattle.relying_verdicts.specs.Asking.{IsInvalidOrOpen}
use Rattle.relying.specs.Agreed.{GaveVerdict, NodeAgreesWithParty, NodesAgree, NodeIsExact, party_of}
use Rattle.relying.specs.Run.{IsEndOfRun}
use Rattle.relying.specs.View.{stored}
use Rattle.relying.specs.declared.fault.DeliverFault.{DeliverFault}
use Rattle.relying.specs.declared.node.Node.{Node}

-- the verdict is Invalid, whatever is held, or the connection was open
abbrev Fails : Accepts → Query → Verdict → Type 0
Fails accepts query v = (j : ℕ) × (reason : Reason) × (v ≡ Invalid j reason) × IsFirstFailure accepts query j reason

which : (accepts : Accepts) (query : Query) (live : Bool) (v : Verdict) → IsInvalidOrOpen accepts query live v → IsTrue live ⊎ Fails accepts query v
which accepts query live (Invalid j reason) fails = inr (j, reason, refl, fails)
which accepts query live (Revoked j reason) opened = inl opened
which accepts query live (Unknown j) opened = inl opened
which accepts query live Valid opened = inl opened

of_invalid : (accepts : Accepts) (query : Query) (held : Holdings) (v : Verdict) → Fails accepts query v → IsVerdict accepts query held v
of_invalid accepts query held v (j, reason, is, fails) =
    subst (IsVerdict accepts query held) (sym is) (record { outcome = Bad j reason; is_outcome = fails; verdict_is = refl })

module _ {V D : Type 0} {g : Ghosts D} (one_verdict : VerdictIsOne) (profile : Profile) (accepts : Accepts) (query : Query) where
  ended : (events : List Event) (answers : List (Result Counts DeliverFault)) (start : Holdings) (begun ran asked : Node V D g) (v : Verdict)
      → GaveVerdict profile accepts query events answers start begun ran asked v → IsTrue (stored ran).is_open → IsEndOfRun profile accepts events answers start (stored ran)
  ended events answers start begun ran asked v gave live = gave.came.ended live start gave.begins

  -- one fails, whatever is held
  fails_alike : (events : List Event) (answers : List (Result Counts DeliverFault)) (start : Holdings) (begun ran asked : Node V D g) (v w : Verdict)
      → Fails accepts query v → GaveVerdict profile accepts query events answers start begun ran asked w → v ≡ w
  fails_alike events answers start begun ran asked v w fails gave = elim (which accepts query (stored ran).is_open w gave.opens) [
    | inl live ↦ let it = ended events answers start begun ran asked w gave live in
        one_verdict accepts query it.held v w (of_invalid accepts query it.held v fails) (gave.looks.1 it.held it.store)
    | inr too ↦ one_verdict accepts query start v w (of_invalid accepts query start v fails) (of_invalid accepts query start w too)
  ]

pub nodes_agree : {V D : Type 0} {g : Ghosts D} {W E : Type 0} {h : Ghosts E} → VerdictIsOne → PartiesAgree → NodesAgree V D g W E h
nodes_agree one_verdict parties_agree profile other_profile accepts query events others answers others_answers start others_start begun ran asked other_begun other_ran other_asked v w one two premises =
    elim (which accepts query (stored ran).is_open v one.opens) [
      | inr fails ↦ fails_alike one_verdict other_profile accepts query others others_answers others_start other_begun other_ran other_asked v w fails two
      | inl live ↦ elim (which accepts query (stored other_ran).is_open w two.opens) [
        | inr fails ↦ sym (fails_alike one_verdict profile accepts query events answers start begun ran asked w v fails one)
        | inl other_live ↦
            let it = one.came.ended live start one.begins in
            let their = two.came.ended other_live others_start two.begins in
            let both = premises it.held their.held it.store their.store in
            parties_agree query (party_of profile accepts events answers start it.held) (party_of other_profile accepts others others_answers others_start their.held) v w refl
            it.newest.newest their.newest.newest both.0 both.1 (one.looks.1 it.held it.store) (two.looks.1 their.held their.store)
      ]
    ]

pub node_is_exact : {V D : Type 0} {g : Ghosts D} → VerdictIsOne → ValidExactlyWhere → NodeIsExact V D g
node_is_exact one_verdict valid profile accepts query events answers start held begun ran asked v gave store =
    let is = gave.looks.1 held store in
    let exact = valid accepts query held in (
      λ valid_is. exact.0 (subst (IsVerdict accepts query held) valid_is is),
      λ clear. one_verdict accepts query held v Valid is (exact.1 clear),
    )

pub node_agrees_with_party : {V D : Type 0} {g : Ghosts D} → VerdictIsOne → PartiesAgree → EachHoldsNewest → NodeAgreesWithParty V D g
node_agrees_with_party one_verdict parties_agree each profile accepts query events answers start began taken begun ran asked v w gave theirs premises =
    let party = after_taking accepts began taken in
    elim (which accepts query (stored ran).is_open v gave.opens) [
      | inr fails ↦ one_verdict accepts query party.held v w (of_invalid accepts query party.held v fails) theirs
      | inl live ↦
          let it = gave.came.ended live start gave.begins in
          let both = premises it.held it.store in
          parties_agree query (party_of profile accepts events answers start it.held) party v w refl
          it.newest.newest (each accepts began taken) both.0 both.1 (gave.looks.1 it.held it.store) theirs
    ]
