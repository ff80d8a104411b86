-- Texts that are written one behind the other.
use Rattle.std.proofs.Common.{◌≡◌, ℕ, List, ◌++◌, Option, Result, Ok, Err, OnOk, refl}
use Rattle.std.specs.Io.KnownBytes.{Appends}
use Rattle.cli_printing.proofs.Laws.{appends_both}

pub ends : {T E : Type 0} (a b c : Option (List ℕ)) (first second text : List ℕ) (result : Result T E) → Appends a b first → OnOk result (Appends b c second) → text ≡ first ++ second → OnOk result (Appends a c text)
ends a b c first second text (Ok x) p q e = appends_both a b c first second text p q e
ends a b c first second text (Err x) p q e = tt

pub three_end : {T E : Type 0} (a b c d : Option (List ℕ)) (one two three text : List ℕ) (result : Result T E) → Appends a b one → Appends b c two → OnOk result (Appends c d three) → text ≡ (one ++ two) ++ three → OnOk result (Appends a d text)
three_end a b c d one two three text result p q r e = ends a c d (one ++ two) three text result (appends_both a b c one two (one ++ two) p q refl) r e

pub four_end : {T E : Type 0} (a b c d f : Option (List ℕ)) (one two three four text : List ℕ) (result : Result T E) → Appends a b one → Appends b c two → Appends c d three → OnOk result (Appends d f four) → text ≡ ((one ++ two) ++ three) ++ four
    → OnOk result (Appends a f text)
four_end a b c d f one two three four text result p q r s e = three_end a c d f (one ++ two) three four text result (appends_both a b c one two (one ++ two) p q refl) r s e
