-- How lists of subtrees are narrowed from certificate to certificate (RFC 5280, 6.1.4 (g)), without a subtree for each pair.
use Rattle.std.specs.Prelude.{◌++◌, ◌&&◌, ◌||◌, ◌≡◌, List, [], ◌∷◌, Bool, not, filter, map, Option, Some, None, if◌then◌else◌}
use Rattle.std.specs.Global.{Vec}
use Rattle.std.specs.List.{list_any}
use Rattle.names.specs.declared.general.Form.{Form}
use Rattle.names.specs.declared.general.Form.TheVariants as F
use Rattle.names.specs.declared.subtree.Subtree.{Subtree}
use Rattle.names.specs.GeneralLayout.{GeneralName, SubtreeBase}
use Rattle.names.specs.GeneralView.{subtree_base}
use Rattle.names.specs.GeneralCoverage.{is_covered, is_base_inside, is_of_form}

-- what the bases of subtrees say
abbrev pub bases_of : List Subtree → List SubtreeBase
bases_of list = map subtree_base list

abbrev pub is_in_one_of : List SubtreeBase → GeneralName → Bool
is_in_one_of bases name = list_any (λ base. is_covered name base) bases

abbrev pub are_about : List SubtreeBase → Form → Bool
are_about bases form = list_any (λ base. is_of_form base form) bases

abbrev pub is_inside_one_of : List SubtreeBase → SubtreeBase → Bool
is_inside_one_of bases base = list_any (λ other. is_base_inside base other) bases

abbrev pub is_processed_base : SubtreeBase → Bool
is_processed_base base = is_of_form base F.Directory || (is_of_form base F.Dns || is_of_form base F.Ip)

abbrev pub has_processed : List SubtreeBase → Bool
has_processed bases = list_any (λ base. is_processed_base base) bases

-- those of the form
abbrev pub of_form : Form → List SubtreeBase → List SubtreeBase
of_form form bases = filter (λ base. is_of_form base form) bases

-- those of the held list that are inside one that is carried are kept
abbrev pub kept : List SubtreeBase → List SubtreeBase → List SubtreeBase
kept held carried = filter (λ base. is_inside_one_of carried base) held

-- and those of the form enters that are inside a held one, but inside none that is kept, which holds their names already
abbrev pub enters : Form → List SubtreeBase → List SubtreeBase → SubtreeBase → Bool
enters form held kept base = is_of_form base form && (is_inside_one_of held base && not (is_inside_one_of kept base))

abbrev pub narrowed : Form → List SubtreeBase → List SubtreeBase → List SubtreeBase
narrowed form held carried = kept held carried ++ filter (λ base. enters form held (kept held carried) base) carried

-- no list yet takes all of the form
abbrev pub narrowed_with : Form → Option (List SubtreeBase) → List SubtreeBase → List SubtreeBase
narrowed_with form None carried = of_form form carried
narrowed_with form (Some held) carried = narrowed form held carried

-- the new list of a form, where a certificate has subtrees of the form
abbrev pub change_of : Form → Option (List SubtreeBase) → List SubtreeBase → Option (List SubtreeBase)
change_of form held carried = if are_about carried form then Some (narrowed_with form held carried) else None

abbrev pub changed : Option (List SubtreeBase) → Option (List SubtreeBase) → Option (List SubtreeBase)
changed held None = held
changed held (Some list) = Some list

-- the subtrees whose bases pass a test
abbrev pub selected : (SubtreeBase → Bool) → List Subtree → List Subtree
selected test list = filter (λ s. test (subtree_base s)) list

-- the subtrees of one form, and those of processed forms
abbrev pub AreOfForm : Form → List Subtree → Vec Subtree → Type 0
AreOfForm form carried list = list.items ≡ selected (λ base. is_of_form base form) carried

abbrev pub processed_in : List Subtree → List Subtree
processed_in carried = selected (λ base. is_processed_base base) carried

-- those of the list that are inside one that is carried
abbrev pub AreKept : List Subtree → List SubtreeBase → Vec Subtree → Type 0
AreKept held carried list = list.items ≡ selected (λ base. is_inside_one_of carried base) held

-- those of the form that enter
abbrev pub AreEntering : Form → List SubtreeBase → List SubtreeBase → List Subtree → Vec Subtree → Type 0
AreEntering form held kept carried list = list.items ≡ selected (λ base. enters form held kept base) carried

-- a new list stands in the place of the old one, where there is one
abbrev pub IsReplacedBy : Option (List SubtreeBase) → Option (List SubtreeBase) → Option (List SubtreeBase) → Type 0
IsReplacedBy change old new = new ≡ changed old change

-- the subtrees of several lists
abbrev pub members_of : List (List SubtreeBase) → List SubtreeBase
members_of [] = []
members_of (list ∷ lists) = list ++ members_of lists
