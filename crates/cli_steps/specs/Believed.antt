-- Which fingerprints a session believes.
use Rattle.std.specs.Prelude.{◌↔◌, ◌||◌, ℕ, List, Bool, IsTrue, Contains}
use Rattle.std.specs.Ordering.{nat_cmp}
use Rattle.std.specs.Cmp.Lexicographic.{slice_cmp}
use Rattle.std.specs.BTreeSet.{contains}
use Rattle.path_verifiers.specs.Accepts.{Accepts}
use Rattle.path_verifiers.specs.Fingerprint.{fingerprint_of}
use Rattle.path_verifiers.specs.ListVerifier.{is_listed}
use Rattle.cli_steps.specs.declared.believed.Believed.{Believed}

-- whether the fingerprint is in the list, or came since
abbrev pub is_believed : Believed → List ℕ → Bool
is_believed believed print =
    is_listed believed.listed print || contains (slice_cmp nat_cmp) believed.told print

-- what is believed are these
abbrev pub BelievesJust : Believed → List (List ℕ) → Type 0
BelievesJust believed prints =
    (print : List ℕ) → (IsTrue (is_believed believed print) ↔ Contains prints print)

-- a signature is accepted where its fingerprint is believed
abbrev pub accepted_by : Believed → Accepts
accepted_by believed = λ algorithm key message signature.
    is_believed believed (fingerprint_of algorithm key message signature)
