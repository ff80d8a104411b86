-- What the constraints that are held say of the certificates that left them, for each path (RFC 5280, 6.1).
use Rattle.std.specs.Prelude.{◌↔◌, ◌+◌, ◌≤◌, ℕ}
use Rattle.cert.specs.CertificateHosts.{CertificateHosts}
use Rattle.path_host_constraints.specs.HostConditions.{PermitHosts, ExcludeNoHost, HaveHosts, HostsArePermitted, HostsAreNotExcluded, UrisHaveHosts}
use Rattle.path_host_constraints.specs.HostConstraints.{HostConstraints, no_constraints, Narrows, AreLeftBy, Permit, DoNotExclude, FindHosts, base_count, bases_before}

-- no constraints are left by those before the first
abbrev pub NoneAreLeftAtFirst : Type 0
NoneAreLeftAtFirst = (says : ℕ → CertificateHosts) → AreLeftBy says 1 no_constraints

-- those that certificate j narrows are left by it too
abbrev pub NarrowedAreLeft : Type 0
NarrowedAreLeft =
    (says : ℕ → CertificateHosts) (j : ℕ) (old new : HostConstraints) → 1 ≤ j → AreLeftBy says j old → Narrows (says j) old new → AreLeftBy says (j + 1) new

-- they ask of certificate j what the certificates before it ask
abbrev pub PermitExactly : Type 0
PermitExactly =
    (says : ℕ → CertificateHosts) (j : ℕ) (held : HostConstraints) → AreLeftBy says j held → Permit held (says j) ↔ HostsArePermitted says j

abbrev pub ExcludeExactly : Type 0
ExcludeExactly =
    (says : ℕ → CertificateHosts) (j : ℕ) (held : HostConstraints) → AreLeftBy says j held → DoNotExclude held (says j) ↔ HostsAreNotExcluded says j

abbrev pub FindHostsExactly : Type 0
FindHostsExactly =
    (says : ℕ → CertificateHosts) (j : ℕ) (held : HostConstraints) → AreLeftBy says j held → FindHosts held (says j) ↔ UrisHaveHosts says j

-- those of one certificate alone ask of another what it asks
abbrev pub AskAlone : Type 0
AskAlone =
    (above c : CertificateHosts) (held : HostConstraints) → Narrows above no_constraints held →
    (Permit held c ↔ PermitHosts above c)
    × (DoNotExclude held c ↔ ExcludeNoHost above c)
    × (FindHosts held c ↔ HaveHosts above c)

-- and they hold at most as many bases as those certificates have
abbrev pub HoldAtMost : Type 0
HoldAtMost =
    (says : ℕ → CertificateHosts) (j : ℕ) (held : HostConstraints) → AreLeftBy says j held → base_count held ≤ bases_before says j
