use Rattle.std.proofs.Common.{map, arith, refl, subst, ◌∙◌, sym}
use Rattle.std.proofs.lemmas.Bool.{false≢true}
use Rattle.cert.specs.Certificate.{Certificate, seen_certificate}
use Rattle.path_search.specs.Authority.{AdmitNamesOfOther}
use Rattle.path_search.proofs.Tails.{all_places, one_more, place_of}
use Rattle.path_search.proofs.authority.Authority.admits_names_above.Goals.{else-not-admits_names_in-via-then-not-admits_names_in+else-not-self_issued, else-not-admits_names_in-via-else-not-admits_names_in}
use Rattle.path_search.proofs.authority.Authority.admits_names_above.Goals as goal

pub returns-then-not-self_issued : goal.returns-then-not-self_issued
returns-then-not-self_issued c =
    let P : Certificate → Type 0 = AdmitNamesOfOther c.args.check c.args.self.now in (
      λ t. absurd (false≢true t),
      λ all.
          let other = subst P (sym c.at-other.ensures)
          (place_of P (seen_certificate c.args.tail.now.target.now) (map seen_certificate c.args.tail.now.bag.now) c.args.tail.now.above.now
          all c.loop-place.place-index c.loop-place-test.true) in
          sym c.if-not-admits_names_in.true
          ∙ c.admits_names_in.ensures.1 (other (sym c.self_issued.ensures.test ∙ c.if-not-self_issued.true)),
    )

pub loop-place-preserved : goal.loop-place-preserved
loop-place-preserved c =
    let P : Certificate → Type 0 = AdmitNamesOfOther c.args.check c.args.self.now in
    one_more P (seen_certificate c.args.tail.now.target.now) (map seen_certificate c.args.tail.now.bag.now) c.args.tail.now.above.now
    c.loop-place.place-index c.loop-place.invariant
    (subst P c.at-other.ensures (elim c.else-not-admits_names_in.branch [
      | else-not-admits_names_in-via-then-not-admits_names_in+else-not-self_issued w ↦
          λ other. absurd (false≢true (sym other ∙ (sym w.self_issued.ensures.test ∙ w.if-not-self_issued.false)))
      | else-not-admits_names_in-via-else-not-admits_names_in w ↦ λ other. c.admits_names_in.ensures.0 w.if-not-admits_names_in.false
    ]))

pub returns : goal.returns
returns c = (
  λ t.
      all_places (AdmitNamesOfOther c.args.check c.args.self.now) (seen_certificate c.args.tail.now.target.now)
      (map seen_certificate c.args.tail.now.bag.now) c.args.tail.now.above.now
      (λ i h. c.loop-place.invariant i (omega (arith, c.loop-place-test.false))),
  λ all. refl,
)
