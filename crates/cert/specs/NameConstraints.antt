-- nameConstraints (RFC 5280, 4.2.1.10):
-- SEQUENCE { permittedSubtrees [0] GeneralSubtrees OPTIONAL, excludedSubtrees [1] GeneralSubtrees OPTIONAL }
use Rattle.std.specs.Prelude.{◌≡◌, ◌+◌, ◌<◌, ◌≤◌, ◌↔◌, ℕ, ◌-◌, ◌||◌, not, List, [], ◌∷◌, ◌++◌, length, map, Option, Some, None, Result, Ok}
use Rattle.std.specs.List.{AllZip}
use Rattle.std.specs.Global.{Vec}
use Rattle.names.specs.declared.subtree.Subtree.{Subtree}
use Rattle.asn.specs.DerLaws.{AreOctets}
use Rattle.asn.specs.Part.{IsWhole}
use Rattle.asn.specs.Place.{Place, seen_tlv, tag, body, body_place}
use Rattle.asn.specs.Members.{Members, left, members, begins, next_at}
use Rattle.asn.specs.Walk.{◌>>=◌, check_that, is_a, optional, next_or, some, ended, each}
use Rattle.asn.specs.Outermost.{nested}
use Rattle.names.specs.GeneralLayout.{SubtreeBase, base}
use Rattle.names.specs.GeneralView.{subtree_base}
use Rattle.names.specs.GeneralForms.{IsSubtreeBase}
use Rattle.cert.specs.Fault.{as_der, as_name, GivesUnlessFull}
use Rattle.cert.specs.declared.fault.CertFault.{CertFault}
use Rattle.asn.specs.declared.tlv.Tlv.{Tlv}
use Rattle.asn.specs.declared.tlv.Cursor.{Cursor}
use Rattle.cert.specs.Limit.{has_room}
use Rattle.cert.specs.declared.fault.CertRule.{CertRule}
use Rattle.cert.specs.declared.fault.CertRule.TheVariants.{ExtensionValue, SubtreeBounds}
use Rattle.cert.specs.declared.name_constraints.NameConstraints as code

-- the bases of the subtrees, which are all that is served of them
pub record NameConstraints : Type 0 where
  pub permitted : List SubtreeBase
  pub excluded : List SubtreeBase

abbrev pub seen_name_constraints : code.NameConstraints → NameConstraints
seen_name_constraints read =
    record { permitted = map subtree_base read.permitted.items; excluded = map subtree_base read.excluded.items }

-- neither minimum [0] nor maximum [1], and nothing else
unfoldable pub no_bounds : Members → Result (Unit {0}) (CertRule × ℕ)
no_bounds left = do
  bounds ← check_that (not (begins 0x80 left || begins 0x81 left)) SubtreeBounds (next_at left)
  ended ExtensionValue left

-- the members of a GeneralSubtree: SEQUENCE { base GeneralName, minimum [0] DEFAULT 0, maximum [1] OPTIONAL }
unfoldable pub subtree : Members → Result SubtreeBase (CertRule × ℕ)
subtree left = do
  first ← next_or ExtensionValue left
  base ← as_name (base first.0)
  done ← no_bounds first.1
  Ok base

-- the bases of subtrees, with one more of at most so many
unfoldable pub one_more_subtree : ℕ → List SubtreeBase → Place → Result (List SubtreeBase) (CertRule × ℕ)
one_more_subtree most earlier value = do
  sequence ← is_a 0x30 ExtensionValue value
  room ← has_room most (length earlier) value.at
  base ← subtree (members value)
  Ok (earlier ++ base ∷ [])

-- GeneralSubtrees: SEQUENCE SIZE (1..MAX) OF GeneralSubtree
unfoldable pub some_subtrees : ℕ → Members → Result (List SubtreeBase) (CertRule × ℕ)
some_subtrees most left = do
  one ← some ExtensionValue left
  each (one_more_subtree most) [] left.values

-- GeneralSubtrees OPTIONAL under a tag
abbrev pub subtrees_in : ℕ → Option Place → Members → Result (List SubtreeBase × Members) (CertRule × ℕ)
subtrees_in most None left = Ok ([], left)
subtrees_in most (Some list) left = do
  found ← some_subtrees most (members list)
  Ok (found, left)

unfoldable pub subtrees : ℕ → ℕ → Members → Result (List SubtreeBase × Members) (CertRule × ℕ)
subtrees most identifier left = subtrees_in most (optional identifier left).0 (optional identifier left).1

-- What is taken of a cursor before and after them.
abbrev pub TakesSubtrees : ℕ → ℕ → Cursor → Cursor → Result (Vec Subtree) CertFault → Type 0
TakesSubtrees most identifier old new result =
    GivesUnlessFull (λ all. (map subtree_base all.items, left new)) result (subtrees most identifier (left old))

-- The checks in their order.
unfoldable pub name_constraints : Place → Result NameConstraints (CertRule × ℕ)
name_constraints octet_string = do
  value ← as_der (nested octet_string)
  sequence ← is_a 0x30 ExtensionValue value
  permitted ← subtrees 4096 0xA0 (members value)
  excluded ← subtrees (4096 - length permitted.0) 0xA1 permitted.1
  done ← ended ExtensionValue excluded.1
  Ok (record { permitted = permitted.0; excluded = excluded.0 })

-- the value is a SEQUENCE of a base that says this, and nothing else
pub record IsSubtree (value : Place) (said : SubtreeBase) : Type 0 where
  pub base : Place
  pub sequence : tag value ≡ 0x30
  pub alone : (members value).values ≡ base ∷ []
  pub says : IsSubtreeBase base said

-- GeneralSubtrees OPTIONAL: nothing, or a value with this identifier that holds these subtrees, one for one, and one at least
abbrev pub AreSubtrees : ℕ → List Place → List SubtreeBase → Type 0
AreSubtrees identifier [] bases = bases ≡ []
AreSubtrees identifier (list ∷ []) bases =
    (tag list ≡ identifier) × (0 < length bases) × AllZip IsSubtree (members list).values bases
AreSubtrees identifier (list ∷ other ∷ lists) bases = ⊥

-- The contents of the OCTET STRING are a SEQUENCE of those permitted or nothing, and of those excluded or nothing; of both
-- together there are no more than are served.
pub record IsNameConstraints (octet_string : Place) (fields : NameConstraints) : Type 0 where
  pub whole : IsWhole (body octet_string)
  pub permitted_lists : List Place
  pub excluded_lists : List Place
  pub sequence : tag (body_place octet_string) ≡ 0x30
  pub members_are : (members (body_place octet_string)).values ≡ permitted_lists ++ excluded_lists
  pub permitted : AreSubtrees 0xA0 permitted_lists fields.permitted
  pub excluded : AreSubtrees 0xA1 excluded_lists fields.excluded
  pub served : length fields.permitted + length fields.excluded ≤ 4096

abbrev pub NameConstraintsAreExact : Type 0
NameConstraintsAreExact =
    (octet_string : Place) (fields : NameConstraints) → AreOctets (body octet_string) →
    (name_constraints octet_string ≡ Ok fields) ↔ IsNameConstraints octet_string fields

abbrev pub seen_bases : Vec Subtree → List SubtreeBase
seen_bases subtrees = map subtree_base subtrees.items

-- all subtrees, at most so many, in order
abbrev pub all_subtrees : ℕ → Members → Result (List SubtreeBase) (CertRule × ℕ)
all_subtrees most left = each (one_more_subtree most) [] left.values

-- The subtrees before and after one more is read.
abbrev pub AddsSubtree : ℕ → Tlv → Vec Subtree → Vec Subtree → Result (Unit {0}) CertFault → Type 0
AddsSubtree most value old new result =
    GivesUnlessFull (λ _. seen_bases new) result (one_more_subtree most (seen_bases old) (seen_tlv value))
