-- The certificates at an end of a path have numbers.
use Rattle.std.proofs.Common.{◌+◌, ◌<◌, ◌^◌, ℕ, length, Option, Some, None}
use Rattle.std.specs.Prelude.{Contains}
use Rattle.std.specs.List.{All}
use Rattle.std.proofs.lemmas.List.Elements.{All-contains_itself, All-weaker, recursion_from_All}
use Rattle.path.specs.Query.{Accepts}
use Rattle.path_issuers.specs.Search.{Search}
use Rattle.path_search.specs.WhyNot.{IsWhyNot, places_of_obstacles}
use Rattle.path_search.specs.declared.answer.Budget.{Budget}
use Rattle.path_search.specs.declared.diagnosis.WhyNot.{WhyNot}
use Rattle.path_search.specs.declared.diagnosis.WhyNot.TheVariants as why
use Rattle.capi_values.specs.WhyNot.{HasEndNumbers}
use Rattle.capi_values.proofs.Gathering.{places_fit}

pub end_fits : (accepts : Accepts) (s : Search) (budget : Budget) (found : Option WhyNot) (anchors : ℕ) → IsWhyNot accepts s budget found → anchors + 1 + length s.bag < 2 ^ 64 → HasEndNumbers anchors found
end_fits accepts s budget None anchors is room = tt
end_fits accepts s budget (Some (why.Target reason)) anchors is room = tt
end_fits accepts s budget (Some (why.Stuck stuck)) anchors is room =
    let named = places_of_obstacles stuck.bag.items in
    let there : All (λ place. place < length s.bag) named =
    All-weaker (Contains named) (λ place. place < length s.bag) (λ place among. (is.bag.places.each place among).there) named (All-contains_itself named) in (
      places_fit anchors (length s.bag) stuck.above.items room is.furthest.tail.right.there,
      places_fit anchors (length s.bag) named room (recursion_from_All (λ place. place < length s.bag) named there),
    )
