-- Demand 3 over what slots say: slots are fed in order to one receiver from its start, its packet memory m untouched between calls.
-- Assumes nothing.
use Rattle.automaton.specs.Demand3.{OverSeen}
use Rattle.automaton.proofs.ByAnswer as ByAnswer
use Rattle.automaton.proofs.Fresh as Fresh
use Rattle.automaton.proofs.HandedOut as HandedOut
use Rattle.automaton.proofs.Refusals as Refusals
use Rattle.automaton.proofs.LateHeader as LateHeader
use Rattle.automaton.proofs.Eleven as Eleven
use Rattle.automaton.proofs.Bounds as Bounds

pub over_seen : OverSeen
over_seen =
    record {
      fresh_header = Fresh.fresh_header;
      fresh = Fresh.fresh;
      handed_out = HandedOut.handed_out;
      only_those = HandedOut.only_those;
      by_answer = ByAnswer.by_answer;
      refusal_idles = ByAnswer.refusal_idles;
      refused_8 = λ m gone s os. Refusals.refused_8 m gone os s;
      refused_9 = λ m gone s os. Refusals.refused_9 m gone os s;
      refused_10 = λ m gone s os. Refusals.refused_10 m gone os s;
      refused_11 = λ m gone s os. Refusals.refused_11 m gone os s;
      late_header = LateHeader.late_header;
      spoiled_mark = LateHeader.spoiled_mark;
      eleven = Eleven.eleven;
      bounded = Bounds.bounded;
      memory_long = Bounds.memory_long;
    }
