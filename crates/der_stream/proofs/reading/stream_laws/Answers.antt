use Rattle.der_stream.proofs.Streams.{one_answer}
use Rattle.der_stream.proofs.reading.stream_laws.Goals as goal

pub returns : goal.returns
returns c = one_answer
