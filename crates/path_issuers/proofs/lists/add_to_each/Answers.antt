use Rattle.std.proofs.Common.{◌+◌, ◌++◌, ◌∷◌, [], ◌∙◌, List, ℕ, take, subst, sym, get_or, arith}
use Rattle.path_issuers.specs.Lists.{Adds, lists_of, list_at}
use Rattle.path_issuers.proofs.Listing.{adds_more, count_is, same_count}
use Rattle.path_issuers.proofs.lists.add_to_each.Goals as goal

pub loop-at-preserved : goal.loop-at-preserved
loop-at-preserved c =
    let ats = c.args.ats.now in
    let i = c.loop-at.at-index in
    let old = c.args.lists.now in
    let lists = c.loop-at.lists in
    let place = c.args.place in
    let at = get_or ats i 0 in (
      same_count lists c.add.new.lists at (list_at (lists_of lists.items) at ++ place ∷ []) c.in_ok-add.ensures ∙ c.loop-at.invariant.0,
      subst (λ (new : List (List ℕ)). Adds place (take (i + 1) ats) (lists_of old.items) new) (sym c.in_ok-add.ensures)
          (adds_more place ats c.requires.ascending i c.loop-at-test.true (lists_of old.items) (lists_of lists.items)
          (omega (arith, count_is lists, c.loop-at.invariant.0, c.requires.within i 0 c.loop-at-test.true)) c.loop-at.invariant.1),
    )
