use Rattle.std.proofs.Common.{arith, ◌≡◌, ℕ, length, take, drop, List, [], refl, sym, ap, inl, inr}
use Rattle.std.proofs.lemmas.List.{length-drop, append-nil, take-append-drop}
use Rattle.der.specs.Value.{Value}
use Rattle.der.specs.Length.{end_of}
use Rattle.der.specs.Encoding.{Encodes}
use Rattle.der.proofs.Clean.{parts_of, front_of, clean_in}
use Rattle.der.proofs.Faults.{below_in}
use Rattle.der.proofs.grammar.check.Goals as goal

-- a value that is the whole text ends where the text ends
whole_end : (text : List ℕ) (v : Value) → Encodes text v → end_of text ≡ length text
whole_end text v sp =
    let p = parts_of v 1 text sp in
    let f = front_of 1 text text [] p.0 p.1 (sym (append-nil text)) p.2 in
    omega (arith, f.within, length-drop (end_of text) text, ap length f.rest_is)

pub returns-then-len-octets-clause-accepts : goal.returns-then-len-octets-clause-accepts
returns-then-len-octets-clause-accepts c =
    (λ e. absurd cc, λ s. absurd (omega (arith, whole_end c.args.octets.now s.0 s.1, c.in-Ok.ensures.ok.len_is)))

pub returns-then-len-octets-clause-refuses : goal.returns-then-len-octets-clause-refuses
returns-then-len-octets-clause-refuses c =
    let b = c.in-Ok.ensures.ok in
    let text = c.args.octets.now in
    inr (
      refl,
      record {
        clean = λ earlier level rest other s breaks. clean_in s b.encoded.0 (take c.in-Ok.len text) (drop c.in-Ok.len text) (sym (take-append-drop c.in-Ok.len text)) b.encoded.1 other breaks;
        place = b.len_is;
        more = omega arith;
      },
    )

pub returns-in-Err-clause-accepts : goal.returns-in-Err-clause-accepts
returns-in-Err-clause-accepts c =
    let r = c.in-Err.ensures.err in
    (λ e. absurd cc, λ s. absurd (clean_in r.broken.2 s.0 c.args.octets.now [] (sym (append-nil c.args.octets.now)) s.1 c.in-Err.rule r.broken.3.0))

pub returns-in-Err-clause-within : goal.returns-in-Err-clause-within
returns-in-Err-clause-within c = elim (below_in c.in-Err.ensures.err.broken.2) [ inl e ↦ omega (arith, e) | inr q ↦ omega (arith, q.0, q.1) ]
