use Rattle.std.proofs.lemmas.List.{take_rest}
use Rattle.words.proofs.LineLaws.{bytes_more, bytes_done}
use Rattle.words.proofs.append_hex.Goals as goal

pub loop-left-preserved : goal.loop-left-preserved
loop-left-preserved c =
    let l = c.loop-left in
    bytes_more l.left.now _ l.page c.in-len2-up.len_at_least l.invariant c.hex_byte.ensures c.append.ensures (take_rest l.left.now 2)

pub returns : goal.returns
returns c = bytes_done c.loop-left.left.now _ c.in_default.len_below c.loop-left.invariant
