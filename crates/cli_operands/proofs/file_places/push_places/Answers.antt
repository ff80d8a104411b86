use Rattle.std.proofs.Common.{◌≡◌, ◌∷◌, ◌++◌, ◌∙◌, [], ℕ, Bor, List, ap, append_assoc, map, rules, subst, sym}
use Rattle.std.proofs.lemmas.List.{map-append}
use Rattle.cli_answers.specs.SearchText.{Place, seen_place}
use Rattle.cli_operands.specs.FilePlaces.{EachStands, StandsIfThere}
use Rattle.cli_operands.proofs.Places.{each_more}
use Rattle.cli_operands.proofs.file_places.push_places.Goals as goal

pub loop-index-preserved : goal.loop-index-preserved
loop-index-preserved c =
    let files = c.args.files.now in
    let found = c.place_or.result in
    let (more, stand, is) = c.loop-index.invariant.2 in
    let indexes : map (λ (index : Bor ℕ). index.now) (c.loop-index.yielded ++ c.in-Some.index ∷ []) ≡ map (λ (index : Bor ℕ). index.now) c.loop-index.yielded ++ c.in-Some.index.now ∷ [] = map-append (λ (index : Bor ℕ). index.now) c.loop-index.yielded (c.in-Some.index ∷ []) in (
      search rules,
      search rules,
      (
        more ++ seen_place found ∷ [],
        subst (λ (numbers : List ℕ). EachStands (StandsIfThere files) numbers (more ++ seen_place found ∷ [])) (sym indexes)
            (each_more (StandsIfThere files) (map (λ (index : Bor ℕ). index.now) c.loop-index.yielded) more c.in-Some.index.now (seen_place found) stand c.place_or.ensures),
        ap (map seen_place) c.in_ok-push_place.ensures.pushed ∙ map-append seen_place c.loop-index.places.items (found ∷ []) ∙ ap (λ (places : List Place). places ++ seen_place found ∷ []) is
            ∙ append_assoc (map seen_place c.args.places.now.items) more (seen_place found ∷ []),
      ),
    )
