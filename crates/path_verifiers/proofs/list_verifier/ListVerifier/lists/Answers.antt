use Rattle.std.proofs.Common.{◌∙◌, length, subst}
use Rattle.std.specs.Ordering.{nat_cmp}
use Rattle.std.specs.Cmp.Lexicographic.{slice_cmp}
use Rattle.std.specs.List.Sorted.{IsBinarySearchResult, IsSearchInRange}
use Rattle.path_verifiers.specs.ListVerifier.{is_listed}
use Rattle.path_verifiers.proofs.Searching.{found}
use Rattle.path_verifiers.proofs.list_verifier.ListVerifier.lists.Goals as goal

pub returns : goal.returns
unfolding is_listed
returns c =
    let same = c.deref.ensures.value in
    c.is_ok.ensures.value
    ∙ found c.args.self.now.prints.items c.args.print.now c.binary_search.result
    (subst (λ xs. IsSearchInRange c.binary_search.result (length xs)) same c.binary_search.ensures.bound)
    (subst (λ xs. IsBinarySearchResult (λ y. slice_cmp nat_cmp y c.args.print.now) xs c.binary_search.result) same c.binary_search.ensures.position)
    c.args.self.now.sorted
