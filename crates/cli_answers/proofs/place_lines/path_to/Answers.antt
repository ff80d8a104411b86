use Rattle.std.proofs.Common.{◌≡◌, ◌<◌, ◌+◌, ◌∙◌, ℕ, List, [], ◌∷◌, ◌++◌, Option, Some, None, ap, append_assoc, arith, get_or, length, map, subst, sym, take}
use Rattle.std.proofs.lemmas.List.{append-nil, length-map, length-take, map-append, take_more}
use Rattle.std.specs.Io.KnownBytes.{Appends}
use Rattle.cli_answers.specs.SearchText.{Place, path_lines, place_line, seen_place}
use Rattle.cli_answers.specs.declared.place_lines.FilePlace.{FilePlace}
use Rattle.cli_answers.proofs.place_lines.path_to.Goals as goal

-- the line of one place more
path_lines_more : (start : ℕ) (places : List Place) (place : Place) → path_lines start (places ++ place ∷ []) ≡ path_lines start places ++ place_line (start + length places) place
path_lines_more start [] place = append-nil (place_line start place) ∙ ap (λ (at : ℕ). place_line at place) (omega arith)
path_lines_more start (first ∷ places) place =
    ap (λ (text : List ℕ). place_line start first ++ text) (path_lines_more (start + 1) places place)
    ∙ sym (append_assoc (place_line start first) (path_lines (start + 1) places) _)
    ∙ ap (λ (at : ℕ). path_lines start (first ∷ places) ++ place_line at place) (omega arith)

one_line_more : (places : List FilePlace) (i : ℕ) (d : FilePlace) → i < length places
    → path_lines 0 (map seen_place (take (i + 1) places)) ≡ path_lines 0 (map seen_place (take i places)) ++ place_line i (seen_place (get_or places i d))
one_line_more places i d within =
    ap (λ (them : List FilePlace). path_lines 0 (map seen_place them)) (take_more places i d within)
    ∙ ap (path_lines 0) (map-append seen_place (take i places) (get_or places i d ∷ []))
    ∙ path_lines_more 0 (map seen_place (take i places)) (seen_place (get_or places i d))
    ∙ ap (λ (at : ℕ). path_lines 0 (map seen_place (take i places)) ++ place_line at (seen_place (get_or places i d))) (omega (arith, length-map (take i places) seen_place, length-take i places, within))

then_appends : (old between new : Option (List ℕ)) (text more : List ℕ) → Appends old between text → Appends between new more → Appends old new (text ++ more)
then_appends None between new text more first then = tt
then_appends (Some front) None new text more first then = absurd first
then_appends (Some front) (Some middle) None text more first then = absurd then
then_appends (Some front) (Some middle) (Some whole) text more first then = then ∙ ap (λ (octets : List ℕ). octets ++ more) first ∙ append_assoc front text more

pub loop-index-preserved : goal.loop-index-preserved
loop-index-preserved g c =
    subst (Appends _ _) (sym (one_line_more c.args.places.now c.loop-index.index _ c.loop-index-test.true))
    (then_appends _ _ _ _ _ c.loop-index.invariant c.in_ok-file_place_to.ensures)
