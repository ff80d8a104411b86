-- The nodes of a valid_policy_tree (RFC 5280, 6.1.2 (a)), and what is done to all nodes of one depth. Qualifiers are left out.
use Rattle.std.specs.Prelude.{ℕ, zero, suc, List, [], ◌∷◌, ◌++◌, map, filter, Bool, true, cond, Option, Some, None, bytes_eq}
use Rattle.std.specs.List.{list_any}

-- a node has a valid_policy, an expected_policy_set, and nodes below it
mutual
  pub data PolicyTree : Type 0 where
    node : List ℕ → List (List ℕ) → PolicyTrees → PolicyTree

  pub data PolicyTrees : Type 0 where
    none : PolicyTrees
    more : PolicyTree → PolicyTrees → PolicyTrees

abbrev pub valid_policy : PolicyTree → List ℕ
valid_policy (node policy expected below) = policy

abbrev pub expected_policy_set : PolicyTree → List (List ℕ)
expected_policy_set (node policy expected below) = expected

abbrev pub listed : PolicyTrees → List PolicyTree
listed none = []
listed (more child others) = child ∷ listed others

abbrev pub trees_of : List PolicyTree → PolicyTrees
trees_of [] = none
trees_of (child ∷ others) = more child (trees_of others)

abbrev pub children : PolicyTree → List PolicyTree
children (node policy expected below) = listed below

abbrev pub has_children : PolicyTree → Bool
has_children u = list_any (λ child. true) (children u)

-- tests of a node
abbrev pub is_of : List ℕ → PolicyTree → Bool
is_of policy u = bytes_eq policy (valid_policy u)

abbrev pub expects : List ℕ → PolicyTree → Bool
expects policy u = list_any (bytes_eq policy) (expected_policy_set u)

-- a node without children
abbrev pub leaf : List ℕ → List (List ℕ) → PolicyTree
leaf policy expected = node policy expected none

-- a node with other children, with one more, with those of its children that pass a test, with another expected_policy_set
abbrev pub with_children : PolicyTree → List PolicyTree → PolicyTree
with_children u all = node (valid_policy u) (expected_policy_set u) (trees_of all)

abbrev pub with_child : PolicyTree → PolicyTree → PolicyTree
with_child child u = with_children u (children u ++ child ∷ [])

abbrev pub keep_children : (PolicyTree → Bool) → PolicyTree → PolicyTree
keep_children test u = with_children u (filter test (children u))

abbrev pub with_expected : List (List ℕ) → PolicyTree → PolicyTree
with_expected expected u = node (valid_policy u) expected (trees_of (children u))

-- this is done to a node that passes the test
abbrev pub where_true : (PolicyTree → Bool) → (PolicyTree → PolicyTree) → PolicyTree → PolicyTree
where_true test change u = cond (test u) (change u) u

-- this is done to each node of one depth; the root's depth is 0
abbrev pub at_depth : ℕ → (PolicyTree → PolicyTree) → PolicyTree → PolicyTree
at_depth zero change tree = change tree
at_depth (suc depth) change tree = at_depth depth (λ u. with_children u (map change (children u))) tree

-- some node of this depth passes the test
abbrev pub some_at : ℕ → (PolicyTree → Bool) → PolicyTree → Bool
some_at zero test tree = test tree
some_at (suc depth) test tree = some_at depth (λ u. list_any test (children u)) tree

-- the nodes of this depth or less without any child nodes are deleted: first those of this depth, then those above them that have none
-- left, and so on to the root (6.1.3 (d) (3)). A tree without a root is NULL.
abbrev pub without_childless : ℕ → PolicyTree → Option PolicyTree
without_childless zero tree = cond (has_children tree) (Some tree) None
without_childless (suc depth) tree = without_childless depth (at_depth depth (keep_children has_children) tree)
