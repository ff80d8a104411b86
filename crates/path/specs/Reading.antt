-- What is asked, as the code has it, and which of several texts is refused.
use Rattle.std.specs.Prelude.{◌<◌, ℕ, List, [], length, map, slice_index_or, IsOk}
use Rattle.std.specs.Borrow.{Bor}
use Rattle.std.specs.Option.{option_copied}
use Rattle.cert.specs.declared.fault.CertFault.{CertFault}
use Rattle.cert.specs.Fault.{FailsUnlessFull}
use Rattle.cert.specs.Certificate.{certificate}
use Rattle.path.specs.Query.{Query}
use Rattle.path.specs.State.{query_of}
use Rattle.path.specs.declared.query.Query as asked

-- the question that a query is
abbrev pub seen_query : asked.Query → Query
seen_query query = query_of query.anchor query.path.items query.moment (option_copied query.purpose) query.options

-- what slices of octets say
abbrev pub texts_of : List (Bor (List ℕ)) → List (List ℕ)
texts_of texts = map (λ text. text.now) texts

-- The text with the number is the first that is no certificate, and this is its fault; or memory ran out, and the texts before it are
-- certificates.
pub record IsFirstRefused (texts : List (List ℕ)) (j : ℕ) (fault : CertFault) : Type 0 where
  pub within : j < length texts
  pub refused : FailsUnlessFull fault (certificate (slice_index_or texts j []))
  pub before : (i : ℕ) → i < j → IsOk (certificate (slice_index_or texts i []))
