-- The walk of name constraints finds what the standard calls them, and nothing else.
use Rattle.std.proofs.Common.{◌≡◌, ◌+◌, ◌-◌, ◌≤◌, ℕ, true, false, not, ◌||◌, List, [], ◌∷◌, ◌++◌, length, Option, Some, None, Ok, append-nil, arith, refl, sym, ap, ◌∙◌, subst}
use Rattle.asn.specs.DerLaws.{AreOctets}
use Rattle.asn.specs.Place.{Place, tag, body, body_place}
use Rattle.asn.specs.Members.{Members, members, begins, begins_in, next_at}
use Rattle.asn.specs.Walk.{check_that, optional}
use Rattle.asn.proofs.Laws.{bind_ok, ok_is, check_again, is_a_ok, is_a_again, next_or_ok, next_or_again, TakesOptional, optional_is, optional_there, optional_absent, ended_ok, ended_again}
use Rattle.names.specs.GeneralLayout.{SubtreeBase, base}
use Rattle.names.proofs.Laws.{subtree_bases_are_read}
use Rattle.cert.specs.declared.fault.CertRule.{CertRule}
use Rattle.cert.specs.declared.fault.CertRule.TheVariants.{ExtensionValue, SubtreeBounds}
use Rattle.cert.specs.NameConstraints.{NameConstraints, no_bounds, subtree, one_more_subtree, some_subtrees, subtrees_in, subtrees, name_constraints, IsSubtree, AreSubtrees, IsNameConstraints}
use Rattle.cert.proofs.ContainedValues.{contained_ok, contained_again}
use Rattle.cert.proofs.AddedItems.{Adds, RoomBelow, SomeItems, at_most, none_behind, some_items_ok, some_items_again}
use Rattle.cert.proofs.Rooms.{as_name_ok, room_ok, room_again}

no_bounds_ok : (left : Members) (u : Unit {0}) → no_bounds left ≡ Ok u → left.values ≡ []
unfolding no_bounds
no_bounds_ok left u e =
    let bounds = bind_ok (check_that (not (begins 0x80 left || begins 0x81 left)) SubtreeBounds (next_at left)) _ u e in
    ended_ok ExtensionValue left u bounds.2

no_bounds_again : (left : Members) → left.values ≡ [] → no_bounds left ≡ Ok tt
unfolding no_bounds begins
no_bounds_again left none =
    let minimum : begins_in 0x80 left.values ≡ false = ap (begins_in 0x80) none in
    let maximum : begins_in 0x81 left.values ≡ false = ap (begins_in 0x81) none in
    rw (minimum, maximum, check_again true SubtreeBounds (next_at left) refl) (ended_again ExtensionValue left none)

subtree_ok : (from : List SubtreeBase) (most : ℕ) (value : Place) (to : List SubtreeBase) → one_more_subtree most from value ≡ Ok to → Adds IsSubtree (RoomBelow most) from value to
unfolding one_more_subtree subtree
subtree_ok from most value to e =
    let sequence = bind_ok _ _ to e in
    let room = bind_ok _ _ to sequence.2 in
    let said = bind_ok _ _ to room.2 in
    let first = bind_ok _ _ said.0 said.1 in
    let read = bind_ok _ _ said.0 first.2 in
    let bounds = bind_ok _ _ said.0 read.2 in
    let took = next_or_ok _ _ _ first.1 in
    let same : read.0 ≡ said.0 = ok_is {E = CertRule × ℕ} read.0 said.0 bounds.2 in
    record {
      item = said.0;
      is_item = record {
        base = first.0.0;
        sequence = is_a_ok _ _ _ _ sequence.1;
        alone = took.values ∙ ap (λ (vs : List Place). first.0.0 ∷ vs) (no_bounds_ok first.0.1 bounds.0 bounds.1);
        says = (subtree_bases_are_read first.0.0 said.0).0 (as_name_ok (base first.0.0) read.0 read.1 ∙ ap (λ b. Ok b) same);
      };
      room = room_ok most (length from) value.at room.0 room.1;
      added = sym (ok_is {E = CertRule × ℕ} _ to said.2);
    }

subtree_again : (from : List SubtreeBase) (most : ℕ) (value : Place) (to : List SubtreeBase) → Adds IsSubtree (RoomBelow most) from value to → one_more_subtree most from value ≡ Ok to
unfolding one_more_subtree subtree
subtree_again from most value to adds =
    let is = adds.is_item in
    let read = (subtree_bases_are_read is.base adds.item).1 is.says in
    let rest : Members = record { values = []; end = (members value).end } in
    rw (is_a_again 0x30 ExtensionValue value is.sequence, room_again most (length from) value.at adds.room, next_or_again ExtensionValue (members value) is.base [] is.alone, read, no_bounds_again rest refl, ← adds.added) refl

some_subtrees_ok : (most : ℕ) (left : Members) (bases : List SubtreeBase) → some_subtrees most left ≡ Ok bases → SomeItems IsSubtree (RoomBelow most) left.values bases
unfolding some_subtrees
some_subtrees_ok most left bases e = some_items_ok (one_more_subtree most) IsSubtree (RoomBelow most) (λ from. subtree_ok from most) ExtensionValue left bases e

some_subtrees_again : (most : ℕ) (left : Members) (bases : List SubtreeBase) → SomeItems IsSubtree (RoomBelow most) left.values bases → some_subtrees most left ≡ Ok bases
unfolding some_subtrees
some_subtrees_again most left bases is = some_items_again (one_more_subtree most) IsSubtree (RoomBelow most) (λ from. subtree_again from most) ExtensionValue left bases is

-- a list of subtrees is the next value, or nothing
pub record TakesSubtrees (most identifier : ℕ) (left : Members) (bases : List SubtreeBase) (others : Members) : Type 0 where
  pub lists : List Place
  pub values : left.values ≡ lists ++ others.values
  pub are : AreSubtrees identifier lists bases
  pub served : length bases ≤ most

of_subtrees : (most identifier : ℕ) (left : Members) (found : Option Place) (others : Members) (x : List SubtreeBase × Members) → TakesOptional identifier left found others → subtrees_in most found others ≡ Ok x → TakesSubtrees most identifier left x.0 x.1
of_subtrees most identifier left None others x took e =
    let P : List SubtreeBase × Members → Type 0 = λ y. TakesSubtrees most identifier left y.0 y.1 in
    subst P (ok_is {E = CertRule × ℕ} ([], others) x e) record { lists = []; values = sym (ap (λ (m : Members). m.values) took.0); are = refl; served = omega arith }
of_subtrees most identifier left (Some list) others x took e =
    let P : List SubtreeBase × Members → Type 0 = λ y. TakesSubtrees most identifier left y.0 y.1 in
    let bases = bind_ok (some_subtrees most (members list)) (λ found. Ok (found, others)) x e in
    let are = some_subtrees_ok most (members list) bases.0 bases.1 in
    subst P (ok_is {E = CertRule × ℕ} (bases.0, others) x bases.2) record {
      lists = list ∷ [];
      values = took.values;
      are = (took.tag_is, are.one, are.are_items);
      served = at_most (length bases.0) most are.room;
    }

subtrees_ok : (most identifier : ℕ) (left : Members) (x : List SubtreeBase × Members) → subtrees most identifier left ≡ Ok x → TakesSubtrees most identifier left x.0 x.1
unfolding subtrees
subtrees_ok most identifier left x e = of_subtrees most identifier left (optional identifier left).0 (optional identifier left).1 x (optional_is identifier left) e

-- others that do not begin with the identifier leave no doubt
subtrees_again : (most identifier : ℕ) (left : Members) (lists others : List Place) (bases : List SubtreeBase) → left.values ≡ lists ++ others → AreSubtrees identifier lists bases → length bases ≤ most → begins_in identifier others ≡ false → subtrees most identifier left ≡ Ok (bases, record { values = others; end = left.end })
unfolding subtrees begins
subtrees_again most identifier left [] others bases e are served absent = rw (optional_absent identifier left (ap (begins_in identifier) e ∙ absent), are, ← e) refl
subtrees_again most identifier left (list ∷ []) others bases e are served absent =
    let read = some_subtrees_again most (members list) bases record { one = are.1; are_items = are.2; room = λ k high. omega arith } in
    rw (optional_there identifier left list others e are.0, read) refl
subtrees_again most identifier left (list ∷ other ∷ lists) others bases e are served absent = absurd are

-- those excluded are not those permitted
not_permitted : (lists : List Place) (bases : List SubtreeBase) → AreSubtrees 0xA1 lists bases → begins_in 0xA0 lists ≡ false
not_permitted [] bases are = refl
not_permitted (list ∷ []) bases are = rw are.0 refl
not_permitted (list ∷ other ∷ lists) bases are = absurd are

both_served : (one two most : ℕ) → one ≤ most → two ≤ most - one → one + two ≤ most
both_served one two most first second = omega arith

pub are_name_constraints : (octet_string : Place) (fields : NameConstraints) → AreOctets (body octet_string) → name_constraints octet_string ≡ Ok fields → IsNameConstraints octet_string fields
unfolding name_constraints
are_name_constraints octet_string fields fits e =
    let value = bind_ok _ _ fields e in
    let sequence = bind_ok _ _ fields value.2 in
    let permitted = bind_ok _ _ fields sequence.2 in
    let excluded = bind_ok _ _ fields permitted.2 in
    let done = bind_ok _ _ fields excluded.2 in
    let held = contained_ok octet_string value.0 fits value.1 in
    let first = subtrees_ok _ _ _ _ permitted.1 in
    let second = subtrees_ok _ _ _ _ excluded.1 in
    let end = ended_ok _ _ _ done.1 in
    subst (IsNameConstraints octet_string) (ok_is {E = CertRule × ℕ} _ fields done.2) record {
      whole = held.1;
      permitted_lists = first.lists;
      excluded_lists = second.lists;
      sequence = subst (λ (p : Place). tag p ≡ 0x30) held.0 (is_a_ok _ _ _ _ sequence.1);
      members_are = ap (λ (p : Place). (members p).values) (sym held.0) ∙ first.values ∙ ap (λ (vs : List Place). first.lists ++ vs) (second.values ∙ none_behind second.lists excluded.0.1.values end);
      permitted = first.are;
      excluded = second.are;
      served = both_served (length permitted.0.0) (length excluded.0.0) 4096 first.served second.served;
    }

pub name_constraints_are : (octet_string : Place) (fields : NameConstraints) → IsNameConstraints octet_string fields → name_constraints octet_string ≡ Ok fields
unfolding name_constraints
name_constraints_are octet_string fields is =
    let inner : Members = members (body_place octet_string) in
    let left : List Place → Members = λ values. record { values = values; end = inner.end } in
    let served = is.served in
    rw (contained_again octet_string is.whole, is_a_again 0x30 ExtensionValue (body_place octet_string) is.sequence, subtrees_again 4096 0xA0 inner is.permitted_lists is.excluded_lists fields.permitted is.members_are is.permitted (omega arith) (not_permitted is.excluded_lists fields.excluded is.excluded), subtrees_again (4096 - length fields.permitted) 0xA1 (left is.excluded_lists) is.excluded_lists [] fields.excluded (sym (append-nil is.excluded_lists)) is.excluded (omega arith) refl, ended_again ExtensionValue (left []) refl) refl
