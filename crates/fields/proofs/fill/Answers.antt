use Prim.Native.Nat.{◌*◌}
use Rattle.fields.specs.Fields.{Extended, semicolons_from}
use mathlib.Core.Bool.{false≢true}
use mathlib.Core.Path.{◌≡◌, refl}
use lib.ListN.{length}
use native.Mathlib.Omega.{arith}
use Rattle.fields.proofs.FieldLaws.{block_rest, last_rest, index_go, index_over, index_other, index_full}
use Rattle.fields.proofs.fill.Goals as goal

pub returns-then-found-gt38 : goal.returns-then-found-gt38
returns-then-found-gt38 c =
    let l = c.loop-k in
    let block = block_rest c.args.«record».now _ l.k c.as_chunks.ensures.front c.loop-k-test.true in
    (index_over _ l.stops _ _ _ _ _ _ l.invariant.2 block c.extend-found.ensures (omega arith) (omega arith), λ t. absurd (false≢true t))

pub loop-k-preserved : goal.loop-k-preserved
loop-k-preserved c =
    let l = c.loop-k in
    let block = block_rest c.args.«record».now _ l.k c.as_chunks.ensures.front c.loop-k-test.true in
    (omega arith, c.extend-found.ensures.sized, index_go _ l.stops _ _ _ _ _ _ l.invariant.2 block c.extend-found.ensures (omega arith))

pub returns-then-found-ne38 : goal.returns-then-found-ne38
returns-then-found-ne38 c =
    let l = c.loop-k in
    let a = c.as_chunks.ensures in
    let z : l.k ≡ length c.as_chunks.result.0.now = omega arith in
    let last = last_rest c.args.«record».now _ _ l.k a.front_len (omega arith) (omega arith) a.back in
    let more : Extended l.stops l.found (semicolons_from (l.k * 16) c.as_chunks.result.1.now) c.extend-found-2.new.stops c.extend-found-2.result
    = rw z c.extend-found-2.ensures in
    let broken = index_other _ l.stops _ _ _ _ _ _ l.invariant.2 last more (omega arith) refl c.if-found-ne38.true in
    (broken, λ t. absurd (false≢true t))

pub returns : goal.returns
returns c =
    let l = c.loop-k in
    let a = c.as_chunks.ensures in
    let z : l.k ≡ length c.as_chunks.result.0.now = omega arith in
    let last = last_rest c.args.«record».now _ _ l.k a.front_len (omega arith) (omega arith) a.back in
    let more : Extended l.stops l.found (semicolons_from (l.k * 16) c.as_chunks.result.1.now) c.extend-found-2.new.stops c.extend-found-2.result
    = rw z c.extend-found-2.ensures in
    let full = index_full _ l.stops _ _ _ _ _ _ l.invariant.2 last more refl c.if-found-ne38.false in
    (full.0, λ t. full.1)
