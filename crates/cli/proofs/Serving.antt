-- What a session came to, by what its loop says.
use Rattle.std.proofs.Common.{◌≡◌, inr, ℕ, List, [], ◌∷◌, ◌++◌, Option, None, Some, Result, Ok, Err, IfErr, OnOk}
use Rattle.std.specs.Io.KnownBytes.{Keeps}
use Rattle.std.proofs.KnownBytes.{Appends-kept}
use Rattle.sqlite.specs.State.{HasCleanDisk, State}
use Rattle.path_verifiers.specs.ListVerifier.{Believes}
use Rattle.statements_facts.specs.Statement.{Holdings}
use Rattle.store_maps.specs.Held.{IsStoreOf}
use Rattle.cli_failures.specs.declared.failure.Failure.{Failure}
use Rattle.cli_steps.specs.Believed.{BelievesJust}
use Rattle.cli_steps.specs.declared.believed.Believed.{Believed}
use Rattle.cli_steps.specs.Held.{holding_of}
use Rattle.cli_steps.specs.Serving.{HasServedLast, Known, SaysAll, SessionHasEnded, text_of}
use Rattle.cli_steps.specs.declared.ending.End.{End}
use Rattle.cli_steps.specs.declared.ending.End.TheVariants.{Quit, Finished, Shut, Unwritable, Unreadable, NoMemory}
use Rattle.cli_steps.specs.State.{IsState, SessionState as PartyState}
use Rattle.cli_steps.specs.Ways.{Steps}
use Rattle.cli_steps.specs.declared.answer.SessionAnswer.{SessionAnswer}
use Rattle.cli_store.specs.Standing.{IsFoundOrMade, LeavesIfClean, seen_of}
use Rattle.cli_store.specs.Stored.{keeping_in}
use Rattle.cli.proofs.Lasting.{IsReady, leaves_the_same}
use Rattle.cli.specs.Host.{HostState}
use Rattle.cli.specs.Listed.{given}
use Rattle.cli.specs.Session.{BelievesAtFirst, HasComeTo, IsFailureOfSession, IsSession, IsWholeSession, beginning, cut_by}
use Rattle.cli.specs.Streams.{Streams}
use Rattle.cli.specs.declared.sessions.SessionWords.{SessionWords}

-- the party of the beginning
begins : (believed : Believed) (prints : List (List ℕ)) (s : State) (start : Holdings) → Believes believed.listed prints → BelievesJust believed prints
    → IsReady s → HasCleanDisk s → IsStoreOf s.now start → IsState believed (keeping_in s) (beginning prints start)
begins believed prints s start listed believes ready clean is =
    record { listed = listed; believes = believes; keeps = (λ still. is, leaves_the_same s ready clean start is) }

-- ---- what is known of the party, in terms of what was seen of its store

module _ (believed last : Believed) (prints : List (List ℕ)) (old new : State) (listed : Believes believed.listed prints) (believes : BelievesJust believed prints)
    (ready : IsReady old) (was_clean : HasCleanDisk new → HasCleanDisk old) (lasts : List Holdings → Type 0) (closes : (left : List Holdings) → LeavesIfClean new left → lasts left) where
  abbrev Stepped : Known
  Stepped Are = HasCleanDisk new → Steps believed (keeping_in old) last (keeping_in new) Are

  abbrev Seen_so : Known
  Seen_so = HasComeTo lasts (seen_of old) (seen_of new) prints

  has_come : (Are : PartyState → PartyState → Type 0) → Stepped Are → Seen_so Are
  has_come Are steps clean start is =
      let (now, is_now, are) = steps clean (beginning prints start) (begins believed prints old start listed believes ready (was_clean clean) is) in
      (now, is_now.keeps.0, closes now.kept.left (λ still. is_now.keeps.1), are)

  last_seen : (holds : _) (input source : Option (List ℕ)) (Is : List SessionAnswer → SessionAnswer → Type 0) → HasServedLast holds input source Stepped Is → HasServedLast holds input source Seen_so Is
  last_seen holds input source Is it =
      record { lines = it.lines; line = it.line; answers = it.answers; answer = it.answer; read = it.read; go_on = it.go_on; last = it.last; known = has_come _ it.known }

  pub seen : (holds : _) (input source output written : Option (List ℕ)) (end : End) → SessionHasEnded holds input source output written Stepped end → SessionHasEnded holds input source output written Seen_so end
  seen holds input source output written Quit it = last_seen holds input source _ it
  seen holds input source output written Finished (middle, it, rest, at_end) =
      (middle, record { lines = it.lines; answers = it.answers; read = it.read; said = it.said; go_on = it.go_on; known = has_come _ it.known }, rest, at_end)
  seen holds input source output written Shut it = last_seen holds input source _ it
  seen holds input source output written Unwritable it = last_seen holds input source _ it
  seen holds input source output written Unreadable (middle, it) =
      (middle, record { lines = it.lines; answers = it.answers; read = it.read; said = it.said; go_on = it.go_on; known = has_come _ it.known })
  seen holds input source output written NoMemory (read, said, known) = (read, said, has_come _ known)

-- what was served over a store that was opened, and is closed then
pub served : (host : HostState) (words : SessionWords) (prints : List (List ℕ)) (believed last : Believed) (old new : State) (run : Streams) (end : End)
    → Believes believed.listed prints → BelievesJust believed prints → IsReady old → (HasCleanDisk new → HasCleanDisk old)
    → SessionHasEnded (holding_of host.holds) run.input run.source run.output run.written (λ Are. HasCleanDisk new → Steps believed (keeping_in old) last (keeping_in new) Are) end
    → host.at.leaves words.store.now (seen_of new) → ((later : List Holdings) → LeavesIfClean new later → host.at.lasts words.store.now later)
    → BelievesAtFirst host.holds (given words.verdicts) prints → IsFoundOrMade host.at words.store.now (seen_of old) → IsSession host words run end
served host words prints believed last old new run end listed believes ready was_clean ended left closes begins found = record {
  prints = prints;
  begins = begins;
  old = seen_of old;
  found = found;
  new = seen_of new;
  left = left;
  ended = seen believed last prints old new listed believes ready was_clean (host.at.lasts words.store.now) closes (holding_of host.holds) run.input run.source run.output run.written end ended;
}

-- ---- whether it was cut short

pub whole : (host : HostState) (words : SessionWords) (run : Streams) (end : End) (result : Result (Unit {0}) Failure) → IsSession host words run end
    → OnOk result (cut_by end ≡ None) → OnOk result (IsWholeSession host words run)
whole host words run end (Ok x) it is = (end, is, it)
whole host words run end (Err failure) it is = tt

pub cut : (host : HostState) (words : SessionWords) (run : Streams) (end : End) (prints : List (List ℕ)) (result : Result (Unit {0}) Failure) → BelievesAtFirst host.holds (given words.verdicts) prints
    → IsSession host words run end → IfErr result (λ failure. cut_by end ≡ Some failure) → IfErr result (IsFailureOfSession host words run)
cut host words run end prints (Ok x) begins it is = tt
cut host words run end prints (Err failure) begins it is = inr ((prints, begins), inr (end, is, it))

-- ---- a flush behind the session

last_kept : (holds : _) (input source output written after : Option (List ℕ)) (Knows : Known) (is_so : _) → Keeps written after
    → HasServedLast holds input source Knows (SaysAll is_so output written) → HasServedLast holds input source Knows (SaysAll is_so output after)
last_kept holds input source output written after Knows is_so keeps it = record {
  lines = it.lines;
  line = it.line;
  answers = it.answers;
  answer = it.answer;
  read = it.read;
  go_on = it.go_on;
  last = (it.last.0, Appends-kept output written after (text_of (it.answers ++ it.answer ∷ [])) it.last.1 keeps);
  known = it.known;
}

ended_kept : (holds : _) (input source output written after : Option (List ℕ)) (Knows : Known) (end : End) → Keeps written after → cut_by end ≡ None
    → SessionHasEnded holds input source output written Knows end → SessionHasEnded holds input source output after Knows end
ended_kept holds input source output written after Knows Quit keeps whole it = last_kept holds input source output written after Knows _ keeps it
ended_kept holds input source output written after Knows Finished keeps whole (middle, it, rest, at_end) = (
  middle,
  record { lines = it.lines; answers = it.answers; read = it.read; said = Appends-kept output written after (text_of it.answers) it.said keeps; go_on = it.go_on; known = it.known },
  rest,
  at_end,
)
ended_kept holds input source output written after Knows Shut keeps whole it = absurd cc
ended_kept holds input source output written after Knows Unwritable keeps whole it = absurd cc
ended_kept holds input source output written after Knows Unreadable keeps whole it = absurd cc
ended_kept holds input source output written after Knows NoMemory keeps whole it = absurd cc

pub whole_kept : (host : HostState) (words : SessionWords) (run : Streams) (after : Option (List ℕ)) → Keeps run.written after → IsWholeSession host words run → IsWholeSession host words (record run { written = after })
whole_kept host words run after keeps (end, whole, it) = (
  end,
  whole,
  record {
    prints = it.prints;
    begins = it.begins;
    old = it.old;
    found = it.found;
    new = it.new;
    left = it.left;
    ended = ended_kept (holding_of host.holds) run.input run.source run.output run.written after (HasComeTo (host.at.lasts words.store.now) it.old it.new it.prints) end keeps whole it.ended;
  },
)
