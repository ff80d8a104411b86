-- Texts that a writer has taken, whole or a front of them.
use Rattle.std.proofs.Common.{◌≡◌, ◌∙◌, ℕ, ◌+◌, ◌-◌, ◌≤◌, ◌<◌, ◌++◌, ap, append_assoc, arith, drop, drop_at, get_or, le_refl, length, length-drop, List, Option, refl, subst, sym, take, take-add, take-append-drop, take_all, take_at}
use Rattle.std.proofs.lemmas.Grind.{flat_map-append}
use Rattle.std.proofs.lemmas.List.{drop_more}
use Rattle.std.specs.List.{flat_map}
use Rattle.std.specs.Io.KnownBytes.{Appends, Keeps}
use Rattle.std.proofs.KnownBytes.{Appends-kept, Appends-nil, Appends-trans}
use Rattle.cli_answers.specs.Fronts.{TakesFront}

-- so many octets more
more : (a b c : Option (List ℕ)) (text : List ℕ) (done n : ℕ) → Appends a b (take done text) → Appends b c (take n (drop done text)) → Appends a c (take (done + n) text)
more a b c text done n before then = subst (Appends a c) (sym (take-add done n text)) (Appends-trans a b c (take done text) (take n (drop done text)) before then)

-- the rest of a text behind so many octets, as a slice has it
rest_of : (text : List ℕ) (done : ℕ) → take (length text - done) (drop done text) ≡ drop done text
rest_of text done = take_all (length text - done) (drop done text) (subst (λ n. n ≤ length text - done) (sym (length-drop done text)) (le_refl (length text - done)))

pub more_within : (text : List ℕ) (done n next : ℕ) → next ≡ done + n → done ≤ length text → n ≤ length (take (length text - done) (drop done text)) → next ≤ length text
more_within text done n next is within some =
    let few : n ≤ length text - done = subst (λ k. n ≤ k) (ap length (rest_of text done) ∙ length-drop done text) some in
    omega (arith, is, within, few)

pub more_of_rest : (a b c : Option (List ℕ)) (text : List ℕ) (done n next : ℕ) → next ≡ done + n → Appends a b (take done text) → Appends b c (take n (take (length text - done) (drop done text)))
    → Appends a c (take next text)
more_of_rest a b c text done n next is before then =
    subst (λ k. Appends a c (take k text)) (sym is) (more a b c text done n before (subst (λ rest. Appends b c (take n rest)) (rest_of text done) then))

-- nothing more
pub no_more : (a b c : Option (List ℕ)) (text : List ℕ) (done next : ℕ) → next ≡ done → Appends a b (take done text) → Keeps b c → Appends a c (take next text)
no_more a b c text done next is before keeps = subst (λ k. Appends a c (take k text)) (sym is) (Appends-kept a b c (take done text) before keeps)

-- all of it, and a flush behind it
pub whole : (a b c : Option (List ℕ)) (text : List ℕ) → Appends a b text → Keeps b c → TakesFront a c text
whole a b c text written keeps = (length text, subst (Appends a c) (sym (take_all (length text) text (le_refl (length text)))) (Appends-kept a b c text written keeps))

-- nothing of it
pub none : (a : Option (List ℕ)) (text : List ℕ) → TakesFront a a text
none a text = (0, Appends-nil a)

-- ---- of texts that stand one behind the other

front_and_rest : (n : ℕ) (x y : List ℕ) → x ++ y ≡ take n x ++ (drop n x ++ y)
front_and_rest n x y = ap (λ l. l ++ y) (sym (take-append-drop n x)) ∙ append_assoc (take n x) (drop n x) y

-- of the first
pub front_of_more : (a b : Option (List ℕ)) (x y : List ℕ) → TakesFront a b x → TakesFront a b (x ++ y)
front_of_more a b x y (n, taken) =
    let first = take n x in
    let is : take (length first) (x ++ y) ≡ first = ap (take (length first)) (front_and_rest n x y) ∙ take_at first (drop n x ++ y) (length first) refl in
    (length first, subst (Appends a b) (sym is) taken)

take_behind : (x y : List ℕ) (n : ℕ) → take (length x + n) (x ++ y) ≡ x ++ take n y
take_behind x y n =
    take-add (length x) n (x ++ y) ∙ ap (λ l. l ++ take n (drop (length x) (x ++ y))) (take_at x y (length x) refl)
    ∙ ap (λ l. x ++ take n l) (drop_at x y (length x) refl)

-- of the second, behind the first
pub front_behind : (a b c : Option (List ℕ)) (x y : List ℕ) → Appends a b x → TakesFront b c y → TakesFront a c (x ++ y)
front_behind a b c x y before (n, taken) = (length x + n, subst (Appends a c) (sym (take_behind x y n)) (Appends-trans a b c x (take n y) before taken))

-- of one among many, behind those before it
pub front_of_each : {A : Type 0} (f : A → List ℕ) (all : List A) (k : ℕ) (it : A) (a b c : Option (List ℕ)) → k < length all
    → Appends a b (flat_map f (take k all)) → TakesFront b c (f (get_or all k it)) → TakesFront a c (flat_map f all)
front_of_each f all k it a b c there before front =
    let one : flat_map f (drop k all) ≡ f (get_or all k it) ++ flat_map f (drop (k + 1) all) = ap (flat_map f) (drop_more all k it there) in
    let whole : flat_map f (take k all) ++ flat_map f (drop k all) ≡ flat_map f all = sym (flat_map-append f (take k all) (drop k all)) ∙ ap (flat_map f) (take-append-drop k all) in
    subst (TakesFront a c) whole
    (front_behind a b c (flat_map f (take k all)) (flat_map f (drop k all)) before
    (subst (TakesFront b c) (sym one) (front_of_more b c (f (get_or all k it)) (flat_map f (drop (k + 1) all)) front)))
