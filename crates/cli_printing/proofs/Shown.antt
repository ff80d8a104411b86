-- The lines of a value, from what it shows.
use Rattle.std.proofs.Common.{◌≡◌, ℕ, ◌+◌, List, [], ◌++◌, length, None, Some, sym, ap, ◌∙◌, append_assoc}
use Rattle.std.proofs.lemmas.List.{append-nil}
use Rattle.asn.specs.Value.{Value, primitive, constructed, Values, none, more}
use Rattle.asn.specs.Encoding.{EncodesAllAt}
use Rattle.asn.specs.Size.{size_of_all}
use Rattle.asn.specs.Place.{remaining}
use Rattle.asn.specs.Shows.{Shows, ShowsInside, ShowsNext}
use Rattle.asn.specs.declared.tlv.Tlv.{Tlv}
use Rattle.asn.specs.declared.tlv.Cursor.{Cursor}
use Rattle.asn.proofs.Laws.{length-encodings}
use Rattle.cli_printing.specs.Printed.{line, lines_of, lines_of_all, shown_contents}

-- a primitive value has one line
pub lines_alone : (level depth : ℕ) (value : Value) (tlv : Tlv) → Shows depth value tlv → ShowsInside depth value None
    → lines_of level value ≡ line level tlv.tag (length tlv.body.now) (shown_contents tlv.body.now)
lines_alone level depth (primitive identifier contents) tlv (tag, form, body) inside =
    ap (λ (i : ℕ). line level i (length contents) (shown_contents contents)) (sym tag)
    ∙ ap (λ (c : List ℕ). line level tlv.tag (length c) (shown_contents c)) (sym body)
lines_alone level depth (constructed identifier values) tlv shows inside = absurd inside

-- the line of a constructed value, and then the lines of the values inside
pub lines_inside : (level depth : ℕ) (value : Value) (tlv : Tlv) (cursor : Cursor) → Shows depth value tlv → ShowsInside depth value (Some cursor)
    → (values : Values) × EncodesAllAt (depth + 1) (remaining cursor).octets values
    × (lines_of level value ≡ line level tlv.tag (length tlv.body.now) [] ++ lines_of_all (level + 1) values)
lines_inside level depth (primitive identifier contents) tlv cursor shows inside = absurd inside
lines_inside level depth (constructed identifier values) tlv cursor (tag, form, encodes) inside = (
  values,
  inside,
  ap (λ (i : ℕ). line level i (size_of_all values) [] ++ lines_of_all (level + 1) values) (sym tag)
      ∙ ap (λ (n : ℕ). line level tlv.tag n [] ++ lines_of_all (level + 1) values) (sym (length-encodings values (depth + 1) tlv.body.now encodes)),
)

-- one value more is behind
pub lines_more : (all text : List ℕ) (level depth : ℕ) (others : Values) (tlv : Tlv) (cursor : Cursor) → ShowsNext depth others (Some tlv) cursor → all ≡ text ++ lines_of_all level others
    → (value : Value) × (later : Values) × Shows depth value tlv × EncodesAllAt depth (remaining cursor).octets later
    × (all ≡ (text ++ lines_of level value) ++ lines_of_all level later)
lines_more all text level depth none tlv cursor next whole = absurd next
lines_more all text level depth (more value later) tlv cursor (encodes, shows, others) whole =
    (value, later, shows, others, whole ∙ sym (append_assoc text (lines_of level value) (lines_of_all level later)))

-- no value is left
pub lines_end : (all text : List ℕ) (level depth : ℕ) (others : Values) (cursor : Cursor) → ShowsNext depth others None cursor → all ≡ text ++ lines_of_all level others → all ≡ text
lines_end all text level depth none cursor next whole = whole ∙ append-nil text
lines_end all text level depth (more value later) cursor next whole = absurd next
