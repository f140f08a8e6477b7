use Prim.Native.Nat.{◌-◌}
use lib.ListN.{length}
use Rattle.error_file.proofs.PieceLaws.{Writing}
use Rattle.error_file.proofs.Texts.append_pieces.Given as goal

abbrev pub invariant-loop-next : goal.invariant-loop-next
invariant-loop-next l = Writing l.self.index.lists.member.now l.self.index.lists.ours.now l.answers l.body l.initial.page l.page l.at l.k

abbrev pub decreases-loop-next : goal.decreases-loop-next
decreases-loop-next l = length l.body - l.at
