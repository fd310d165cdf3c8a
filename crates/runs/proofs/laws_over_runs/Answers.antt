use Rattle.runs.proofs.laws_over_runs.Goals as goal
use Rattle.runs.proofs.Laws.{events_fix_records, events_fix_beginnings, always_orderly, never_sticks}
use Rattle.runs.proofs.Safety.{always-bounded, always-safe}
use Rattle.runs.proofs.Fixed.{every-call-answers, state-fixes-answer, journal-fixes-state}

pub returns : goal.returns
returns c = record {
  events_fix_records = events_fix_records;
  events_fix_beginnings = events_fix_beginnings;
  always_orderly = always_orderly;
  never_sticks = never_sticks;
  always_bounded = always-bounded;
  always_safe = always-safe;
  every_call_answers = every-call-answers;
  state_fixes_answer = state-fixes-answer;
  journal_fixes_state = journal-fixes-state;
}
