use Rattle.std.specs.Prelude.{◌≡◌, ℕ, List, length}
use Rattle.names.specs.Dns.{labels}
use Rattle.names_identity.specs.Identity.{folded, MatchesHost}

-- whether a name matches a host does not depend on the ASCII case of either
abbrev pub HostCaseIsIgnored : Type 0
HostCaseIsIgnored =
    (name other host written : List ℕ) → folded name ≡ folded other → folded host ≡ folded written →
    MatchesHost name host → MatchesHost other written

-- a name matches hosts of as many labels as it has: a wildcard stands for one
abbrev pub LabelsAreAsMany : Type 0
LabelsAreAsMany = (name host : List ℕ) → MatchesHost name host → length (labels name) ≡ length (labels host)
