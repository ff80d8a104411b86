-- Texts behind their lengths are told apart.
use Rattle.std.proofs.Common.{◌≡◌, ℕ, List, [], ◌++◌, length, take, drop, refl, sym, ap, ◌∙◌, append_assoc, append-nil, drop_at, take_at}
use Rattle.std.proofs.lemmas.Nat.{from_be_bytes-to_be_bytes_8}
use Rattle.std.specs.Int.{w64, to_be_bytes, from_be_bytes}
use Rattle.path_verifiers.specs.Fingerprint.{framed, framed_judgement}
use Rattle.path_verifiers.specs.FramingLaws.{FitsEightOctets, JudgementsAreDistinct}

eight : (n : ℕ) → length (to_be_bytes w64 n) ≡ 8
eight n = refl

-- the front of a text, and what stands behind it, by the length of the front
split : (a b x y : List ℕ) → length a ≡ length b → a ++ x ≡ b ++ y → (a ≡ b) × (x ≡ y)
split a b x y same e = (
  sym (take_at a x (length a) refl) ∙ ap (take (length a)) e ∙ take_at b y (length a) (sym same),
  sym (drop_at a x (length a) refl) ∙ ap (drop (length a)) e ∙ drop_at b y (length a) (sym same),
)

first : (a b x y : List ℕ) → FitsEightOctets a → FitsEightOctets b → framed a ++ x ≡ framed b ++ y → (a ≡ b) × (x ≡ y)
first a b x y fits other e =
    let head = to_be_bytes w64 (length a) in
    let heads = to_be_bytes w64 (length b) in
    let apart : head ++ (a ++ x) ≡ heads ++ (b ++ y) = sym (append_assoc head a x) ∙ e ∙ append_assoc heads b y in
    let lengths = split head heads (a ++ x) (b ++ y) (eight (length a) ∙ sym (eight (length b))) apart in
    let same : length a ≡ length b = sym (from_be_bytes-to_be_bytes_8 (length a) fits) ∙ ap (from_be_bytes w64) lengths.0 ∙ from_be_bytes-to_be_bytes_8 (length b) other in
    split a b x y same lengths.1

grouped : (a k m s : List ℕ) → framed_judgement a k m s ≡ framed a ++ (framed k ++ (framed m ++ (framed s ++ [])))
grouped a k m s =
    append_assoc (framed a ++ framed k) (framed m) (framed s)
    ∙ append_assoc (framed a) (framed k) (framed m ++ framed s)
    ∙ ap (λ (t : List ℕ). framed a ++ (framed k ++ (framed m ++ t))) (sym (append-nil (framed s)))

pub judgements_are_distinct : JudgementsAreDistinct
judgements_are_distinct a k m s b l n t fa fk fm fs gb gl gn gt e =
    let one = first a b _ _ fa gb (sym (grouped a k m s) ∙ e ∙ grouped b l n t) in
    let two = first k l _ _ fk gl one.1 in
    let three = first m n _ _ fm gn two.1 in
    let four = first s t [] [] fs gt three.1 in
    (one.0, two.0, three.0, four.0)
