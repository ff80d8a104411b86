use Rattle.std.proofs.Common.{◌+◌, ◌++◌, ◌∷◌, [], ◌∙◌, List, ℕ, subst, sym, get_or, arith}
use Rattle.path_issuers.specs.Lists.{ArePlacesBefore, lists_of, list_at}
use Rattle.path_issuers.proofs.Listing.{places_more, count_is, same_count}
use Rattle.path_issuers.proofs.lists.places_by_number.Goals as goal

pub loop-place-preserved : goal.loop-place-preserved
loop-place-preserved c =
    let numbers = c.args.numbers.now in
    let place = c.loop-place.place in
    let lists = c.loop-place.lists in
    let number = get_or numbers place 0 in (
      same_count lists c.add.new.lists number (list_at (lists_of lists.items) number ++ place ∷ []) c.in_ok-add.ensures ∙ c.loop-place.invariant.0,
      subst (λ (new : List (List ℕ)). ArePlacesBefore (place + 1) numbers new) (sym c.in_ok-add.ensures)
          (places_more numbers place (lists_of lists.items)
          (omega (arith, count_is lists, c.loop-place.invariant.0, c.requires place 0 c.loop-place-test.true)) c.loop-place.invariant.1),
    )

pub returns : goal.returns
returns c =
    subst (λ (bound : ℕ). ArePlacesBefore bound c.args.numbers.now (lists_of c.loop-place.lists.items)) (omega arith) c.loop-place.invariant.1
