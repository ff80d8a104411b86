use Rattle.std.proofs.Common.{◌+◌, ◌++◌, [], length, ap, subst, sym, arith, refl, List, ℕ}
use Rattle.std.proofs.lemmas.List.{length-append}
use Rattle.std.proofs.lemmas.Result.{on_ok_weaker}
use Rattle.std.specs.Io.KnownBytes.{Appends}
use Rattle.asn.specs.Place.{remaining}
use Rattle.cli_printing.specs.Printed.{line, lines_of, lines_of_all}
use Rattle.cli_printing.proofs.Appending.{appends_both}
use Rattle.cli_printing.proofs.Shown.{lines_alone, lines_inside, lines_more, lines_end}
use Rattle.cli_printing.proofs.tree.+write.Goals as goal

pub write_members-loop-tlv-preserved : goal.write_members-loop-tlv-preserved
write_members-loop-tlv-preserved g t c =
    let s = c.in-Some.ensures.splits in
    record {
      smaller = omega (arith, c.loop-tlv.invariant.smaller, ap length s.octets, length-append c.in-Some.tlv.whole.now (remaining c.next.new.self).octets);
      written = λ depth values encodes.
          let was = c.loop-tlv.invariant.written depth values encodes in
          let step = lines_more (lines_of_all c.args.level values) was.1 c.args.level depth was.0 c.in-Some.tlv c.next.new.self (c.in-Some.ensures.shows depth was.0 was.2) was.3 in
          let said = c.in_ok-write_value.ensures depth step.0 step.2 in (
            step.1,
            was.1 ++ lines_of c.args.level step.0,
            step.3,
            step.4,
            appends_both _ _ _ _ _ _ was.4 said refl,
          );
    }

pub write_members-returns : goal.write_members-returns
write_members-returns g t c = λ depth values encodes.
    let was = c.loop-tlv.invariant.written depth values encodes in
    let end = lines_end (lines_of_all c.args.level values) was.1 c.args.level depth was.0 c.next.new.self (c.in_default.ensures.shows depth was.0 was.2) was.3 in
    subst (λ (text : List ℕ). Appends (g.W.Write.contents c.args.writer.now) (g.W.Write.contents c.loop-tlv.writer) text) (sym end) was.4

pub write_value-returns-in-None : goal.write_value-returns-in-None
write_value-returns-in-None g t c =
    on_ok_weaker c.write_line.result (λ said depth value shows.
    subst (λ (text : List ℕ). Appends (g.W.Write.contents c.args.writer.now) (g.W.Write.contents c.write_line.new.writer) text)
    (sym (lines_alone c.args.level depth value c.args.tlv shows (c.in-None.ensures.shows depth value shows))) said)
    c.write_line.ensures

pub write_value-returns-in_ok-write_line-in-Some : goal.write_value-returns-in_ok-write_line-in-Some
write_value-returns-in_ok-write_line-in-Some g t c =
    on_ok_weaker c.write_members.result (λ said depth value shows.
    let inside = lines_inside c.args.level depth value c.args.tlv c.in-Some.members shows (c.in-Some.ensures.shows depth value shows) in
    appends_both
    (g.W.Write.contents c.args.writer.now)
    (g.W.Write.contents c.write_line-in-Some.new.writer)
    (g.W.Write.contents c.write_members.new.writer)
    (line c.args.level c.args.tlv.tag (length c.args.tlv.body.now) [])
    (lines_of_all (c.args.level + 1) inside.0)
    (lines_of c.args.level value)
    c.in_ok-write_line-in-Some.ensures
    (said (depth + 1) inside.0 inside.1)
    inside.2)
    c.write_members.ensures
