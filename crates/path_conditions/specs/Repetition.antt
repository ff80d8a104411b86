-- Lists of subtrees that repeat others, without where their octets lie.
use Rattle.std.specs.Prelude.{◌≡◌, ◌==◌, ◌&&◌, ◌-◌, List, [], ◌∷◌, Bool, true, false, Option, Some, None, length, drop}
use Rattle.std.specs.Str.{bytes_eq}
use Rattle.std.specs.Cmp.Lexicographic.{pointwise}
use Rattle.names.specs.declared.general.Form.{Form}
use Rattle.names.specs.declared.subtree.Subtree.{Subtree}
use Rattle.names.specs.Bases.{DomainNames, every_name, names_within, names_below, AddressRange}
use Rattle.names.specs.DistinguishedName.{matching}
use Rattle.names.specs.GeneralLayout.{GeneralName, SubtreeBase, directory_base, dns_base, ip_base}
use Rattle.names.specs.GeneralView.{subtree_base}
use Rattle.path_conditions.specs.Narrowing.{bases_of, of_form, is_in_one_of, narrowed, changed, change_of}

-- DNS constraints with the same octets, and ranges with the same octets and as many bits
unfoldable pub are_same_names : DomainNames → DomainNames → Bool
are_same_names every_name every_name = true
are_same_names (names_within one) (names_within other) = bytes_eq one other
are_same_names (names_below one) (names_below other) = bytes_eq one other
are_same_names _ _ = false

unfoldable pub are_same_ranges : AddressRange → AddressRange → Bool
are_same_ranges one other = (one.prefix == other.prefix) && bytes_eq one.address other.address

-- subtrees that hold the same names; two of forms that are not processed are never taken for the same
unfoldable pub is_same_base : SubtreeBase → SubtreeBase → Bool
is_same_base (directory_base one) (directory_base other) = matching one.rdns other.rdns
is_same_base (dns_base one) (dns_base other) = are_same_names one other
is_same_base (ip_base one) (ip_base other) = are_same_ranges one other
is_same_base _ _ = false

-- the first of a list is the same as the base
abbrev pub begins_same : List Subtree → SubtreeBase → Bool
begins_same [] other = false
begins_same (s ∷ list) other = is_same_base (subtree_base s) other

-- two lists have the same subtrees, in order
abbrev pub repeats : List SubtreeBase → List SubtreeBase → Bool
repeats list more = pointwise is_same_base list more

-- the first list, those of one form of the second
abbrev pub repeats_form : Form → List SubtreeBase → List SubtreeBase → Bool
repeats_form form list carried = repeats list (of_form form carried)

-- the end of the first list, the second
abbrev pub repeats_end : List SubtreeBase → List SubtreeBase → Bool
repeats_end list more = repeats (drop (length list - length more) list) more

-- the list that is held of a form, what a certificate carries of it
abbrev pub is_held_again : Form → Option (List SubtreeBase) → List SubtreeBase → Bool
is_held_again form None carried = false
is_held_again form (Some held) carried = repeats_form form held carried

-- with the change the list is the one behind a certificate that carries these permitted subtrees
abbrev pub Renews : Form → Option (List SubtreeBase) → List Subtree → Option (List SubtreeBase) → Type 0
Renews form held carried change = changed held change ≡ changed held (change_of form held (bases_of carried))

-- the same of a list that is held, and of subtrees of which one is of the form
abbrev pub Narrows : Form → List SubtreeBase → List Subtree → Option (List SubtreeBase) → Type 0
Narrows form held carried change = changed (Some held) change ≡ Some (narrowed form held (bases_of carried))

-- the same names lie in both lists
abbrev pub HoldSameNames : List SubtreeBase → List SubtreeBase → Type 0
HoldSameNames one other = (name : GeneralName) → is_in_one_of one name ≡ is_in_one_of other name
