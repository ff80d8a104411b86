use Rattle.std.proofs.Common.{◌≡◌, ◌+◌, ◌≤◌, take, drop, length, arith, ℕ, List, ◌++◌, get_or, refl, sym, ap, ◌∙◌, subst}
use Rattle.std.proofs.Math.Logic.{∥∥₁_elim, ∥∥₁_map}
use Rattle.std.proofs.Props.{props}
use Rattle.std.proofs.lemmas.List.{take-append-drop, length-append}
use Rattle.der.proofs.Laws.{two_octets, served_length, read_front}
use Rattle.der.specs.Header.{SaysHeader}
use Rattle.der.specs.declared.header.Header.{Header}
use Rattle.der.specs.Length.{end_of}
use Rattle.der.specs.Encoding.{EncodesAt}
use Rattle.asn.specs.Part.{contents, BeginsEncoded}
use Rattle.asn.specs.Place.{front, behind}
use Rattle.asn.proofs.Splits.{end_is}
use Rattle.asn.proofs.Views.{whole_is, same_words}
use Rattle.asn.proofs.cursor.front_of.Goals as goal

pub returns-clause-first : goal.returns-clause-first
unfolding front
returns-clause-first c =
    let octets = c.args.octets.now in
    let e : c.known-header.result.len + c.known-header.result.contents ≡ end_of octets = sym (end_is octets c.known-header.result c.known-header.ensures) in
    ap (λ (w : List ℕ). record { octets = w; at = c.args.at }) (c.split_at.ensures.front ∙ ap (λ (n : ℕ). take n octets) e)

pub returns-clause-others : goal.returns-clause-others
unfolding behind
returns-clause-others c =
    let octets = c.args.octets.now in
    let e : c.known-header.result.len + c.known-header.result.contents ≡ end_of octets = sym (end_is octets c.known-header.result c.known-header.ensures) in
    let n : length c.split_at.result.0.now ≡ end_of octets = c.split_at.ensures.front_len ∙ e in
    ap (λ (w : List ℕ). record { octets = w; at = c.args.at + length c.split_at.result.0.now }) (c.split_at.ensures.back ∙ ap (λ (n : ℕ). drop n octets) e)
    ∙ ap (λ (k : ℕ). record { octets = drop (end_of octets) octets; at = c.args.at + k }) n

pub known-header-requires : goal.known-header-requires
known-header-requires c = ∥∥₁_elim c.requires.encoded (hlevel props) (λ b. served_length b.0 c.args.octets.now b.2 b.3 b.1 b.4 b.5)

-- the value ends within the text
within : (text : List ℕ) (header : Header) → BeginsEncoded text → SaysHeader text header → header.len + header.contents ≤ length text
within text header (depth, v, x, rest, e, sp) says = omega (arith, end_is text header says, (read_front depth text x rest v e sp).1, ap length e, length-append x rest)

pub split_at-requires : goal.split_at-requires
split_at-requires c = ∥∥₁_elim c.requires.encoded (hlevel props) (λ b. within c.args.octets.now c.known-header.result b c.known-header.ensures)

pub overflow_add-header : goal.overflow_add-header
overflow_add-header c = ∥∥₁_elim c.requires.encoded (hlevel props) (λ b. omega (arith, within c.args.octets.now c.known-header.result b c.known-header.ensures, c.requires.fits))

pub invariant_of-result : goal.invariant_of-result
unfolding contents
invariant_of-result c =
    let h = c.known-header.ensures in
    let octets = c.args.octets.now in
    let header = c.known-header.result in
    let taken = c.split_at.ensures.front in
    record {
      encoded = ∥∥₁_map c.requires.encoded (λ b. (b.0, b.1, subst (λ (x : List ℕ). EncodesAt b.0 x b.1) (sym (taken ∙ (whole_is octets b.2 b.3 b.0 b.1 header h b.4 b.5).0)) b.5));
      tag_is = ∥∥₁_elim c.requires.encoded (hlevel props) (λ b.
          h.identifier ∙ (same_words octets b.2 b.3 b.0 b.1 b.4 b.5).0 ∙ sym (ap (λ (x : List ℕ). get_or x 0 0) (taken ∙ (whole_is octets b.2 b.3 b.0 b.1 header h b.4 b.5).0)));
      body_is = ∥∥₁_elim c.requires.encoded (hlevel props) (λ b.
          let w = same_words octets b.2 b.3 b.0 b.1 b.4 b.5 in
          let e = taken ∙ (whole_is octets b.2 b.3 b.0 b.1 header h b.4 b.5).0 in
          rw (c.split_at-2.ensures.back, e, h.len, w.1) w.2);
      fits = omega (arith, c.requires.fits, c.split_at.ensures.front_len, c.split_at.ensures.back_len);
    }

pub returns-clause-value : goal.returns-clause-value
returns-clause-value c = λ depth v x rest e sp. let w = whole_is c.args.octets.now x rest depth v c.known-header.result c.known-header.ensures e sp in (c.split_at.ensures.front ∙ w.0, c.split_at.ensures.back ∙ w.1)

pub returns-clause-splits : goal.returns-clause-splits
returns-clause-splits c =
    let octets = c.args.octets.now in
    let size = c.split_at.ensures.front_len in
    record {
      octets = sym (take-append-drop (c.known-header.result.len + c.known-header.result.contents) octets) ∙ ap (λ (x : List ℕ). x ++ drop (c.known-header.result.len + c.known-header.result.contents) octets) (sym c.split_at.ensures.front) ∙ ap (λ (y : List ℕ). c.split_at.result.0.now ++ y) (sym c.split_at.ensures.back);
      some = omega (arith, size, c.known-header.ensures.len, two_octets octets);
      value_at = refl;
      rest_at = refl;
    }
