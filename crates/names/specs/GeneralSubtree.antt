-- The subtrees of name constraints (RFC 5280, 4.2.1.10).
use Rattle.std.specs.Prelude.{◌≡◌, ◌⊎◌, ◌↔◌, Bool, true, false, ◌==◌, IsTrue}
use Rattle.names.specs.declared.general.General.{General}
use Rattle.names.specs.declared.general.Form.{Form}
use Rattle.names.specs.declared.subtree.Subtree.{Subtree}
use Rattle.names.specs.declared.general.General.TheVariants as G
use Rattle.names.specs.declared.general.Form.TheVariants as F
use Rattle.names.specs.declared.subtree.Subtree.TheVariants as S
use Rattle.names_distinguished.specs.DistinguishedName.{IsWithin, is_within}
use Rattle.names_distinguished.specs.NameOctets.{rdns_of}
use Rattle.names.specs.Dns.{IsInDomain, is_in_domain, is_domain_inside}
use Rattle.names.specs.Ip.{IsInRange, is_in_address_range, is_range_inside}
use Rattle.names.specs.GeneralName.{form_of_name, IsProcessed}

abbrev pub form_of : Subtree → Form
form_of (S.Directory s) = F.Directory
form_of (S.Dns s) = F.Dns
form_of (S.Ip s) = F.Ip
form_of (S.Other n s) = F.Other n

-- the name lies in the subtree: both are of one processed form, and there it does
abbrev pub IsInSubtree : General → Subtree → Type 0
IsInSubtree (G.Directory x) (S.Directory s) = IsWithin (rdns_of x) (rdns_of s)
IsInSubtree (G.Dns x) (S.Dns s) = IsInDomain x.now s
IsInSubtree (G.Ip x) (S.Ip s) = IsInRange x.now s
IsInSubtree _ _ = ⊥

-- tests

unfoldable pub is_in_subtree : General → Subtree → Bool
is_in_subtree (G.Directory x) (S.Directory s) = is_within (rdns_of x) (rdns_of s)
is_in_subtree (G.Dns x) (S.Dns s) = is_in_domain x.now s
is_in_subtree (G.Ip x) (S.Ip s) = is_in_address_range x.now s
is_in_subtree _ _ = false

-- whether the first subtree is a part of the second
unfoldable pub is_subtree_inside : Subtree → Subtree → Bool
is_subtree_inside (S.Directory s) (S.Directory t) = is_within (rdns_of s) (rdns_of t)
is_subtree_inside (S.Dns s) (S.Dns t) = is_domain_inside s t
is_subtree_inside (S.Ip s) (S.Ip t) = is_range_inside s t
is_subtree_inside _ _ = false

-- whether the subtree is of the form
unfoldable pub has_form : Subtree → Form → Bool
has_form (S.Directory s) F.Directory = true
has_form (S.Dns s) F.Dns = true
has_form (S.Ip s) F.Ip = true
has_form (S.Other m s) (F.Other n) = m == n
has_form _ _ = false

-- laws

abbrev pub SubtreeTestIsExact : Type 0
SubtreeTestIsExact = (name : General) (subtree : Subtree) → (IsTrue (is_in_subtree name subtree) ↔ IsInSubtree name subtree)

-- every name in the first is in the second
abbrev pub InsideIsSound : Type 0
InsideIsSound = (name : General) (s t : Subtree) → IsTrue (is_subtree_inside s t) → IsInSubtree name s → IsInSubtree name t

-- two subtrees that share a name are nested, one way or the other
abbrev pub SharedIsNested : Type 0
SharedIsNested =
    (name : General) (s t : Subtree) → IsInSubtree name s → IsInSubtree name t →
    IsTrue (is_subtree_inside s t) ⊎ IsTrue (is_subtree_inside t s)

-- a name lies in subtrees of its own form alone, and that form is processed
abbrev pub FormIsKept : Type 0
FormIsKept = (name : General) (s : Subtree) → IsInSubtree name s → form_of s ≡ form_of_name name

abbrev pub FormIsProcessed : Type 0
FormIsProcessed = (name : General) (s : Subtree) → IsInSubtree name s → IsProcessed (form_of s)

abbrev pub FormTestIsExact : Type 0
FormTestIsExact = (s : Subtree) (form : Form) → (IsTrue (has_form s form) ↔ (form_of s ≡ form))
