-- Why a path is refused, by rank.
use Rattle.std.specs.Prelude.{ℕ, List, codes}
use Rattle.path.specs.declared.reason.Reason.{Reason}
use Rattle.path.specs.declared.reason.Reason.TheVariants.{Repeated, Signature, NotYet, Expired, Issuer, NotPermitted, Excluded, ConstraintForm, NotCa, PathLength, KeyCertSign, Policy, CriticalUnknown, Purpose, Empty, TooLong, NoValidPolicy, AnyPolicyMapped, NoUserPolicy}

abbrev pub reason_rank : Reason → ℕ
reason_rank Repeated = 1
reason_rank Signature = 2
reason_rank NotYet = 3
reason_rank Expired = 4
reason_rank Issuer = 5
reason_rank NotPermitted = 6
reason_rank Excluded = 7
reason_rank ConstraintForm = 8
reason_rank NotCa = 9
reason_rank PathLength = 10
reason_rank KeyCertSign = 11
reason_rank Policy = 12
reason_rank CriticalUnknown = 13
reason_rank Purpose = 14
reason_rank Empty = 15
reason_rank TooLong = 16
reason_rank NoValidPolicy = 17
reason_rank AnyPolicyMapped = 18
reason_rank NoUserPolicy = 19

abbrev pub reason_name : Reason → List ℕ
reason_name Repeated = codes "Repeated"
reason_name Signature = codes "Signature"
reason_name NotYet = codes "NotYet"
reason_name Expired = codes "Expired"
reason_name Issuer = codes "Issuer"
reason_name NotPermitted = codes "NotPermitted"
reason_name Excluded = codes "Excluded"
reason_name ConstraintForm = codes "ConstraintForm"
reason_name NotCa = codes "NotCa"
reason_name PathLength = codes "PathLength"
reason_name KeyCertSign = codes "KeyCertSign"
reason_name Policy = codes "Policy"
reason_name CriticalUnknown = codes "CriticalUnknown"
reason_name Purpose = codes "Purpose"
reason_name Empty = codes "Empty"
reason_name TooLong = codes "TooLong"
reason_name NoValidPolicy = codes "NoValidPolicy"
reason_name AnyPolicyMapped = codes "AnyPolicyMapped"
reason_name NoUserPolicy = codes "NoUserPolicy"
