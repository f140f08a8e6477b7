use native.Mathlib.Omega.{arith}
use mathlib.Core.Path.{◌∙◌, sym}
use Rattle.text.specs.declared.Class.TheVariants.{RecordByte}
use Rattle.envelope.proofs.BlockLaws.{block_short, block_whole}
use Rattle.envelope.proofs.blocks_end.Goals as goal

pub returns-then-n-lt-BLOCK_SIZE : goal.returns-then-n-lt-BLOCK_SIZE
returns-then-n-lt-BLOCK_SIZE c =
    let l = c.loop-w in
    block_short RecordByte _ c.args.at l.w-index l.end _ _ c.rest.ensures.bytes c.as_chunks.ensures.front (omega arith) l.invariant.place
    c.block_end-n.ensures (omega arith)
    ∙ sym l.invariant.same

pub loop-w-preserved : goal.loop-w-preserved
loop-w-preserved c =
    let l = c.loop-w in
    record {
      place = omega arith;
      same =
          l.invariant.same
          ∙ block_whole RecordByte _ c.args.at l.w-index l.end _ _ c.rest.ensures.bytes c.as_chunks.ensures.front (omega arith) l.invariant.place
          c.block_end-n.ensures (omega arith);
    }
