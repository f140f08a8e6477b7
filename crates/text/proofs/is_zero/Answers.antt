use Rattle.std.proofs.Common.{◌≡◌, ◌∙◌, ◌/◌, ap, sym, rules, tests, length, true, false}
use Rattle.std.specs.List.{list_all}
use Rattle.std.specs.Simd.{first_chunks}
use Rattle.std.proofs.lemmas.Iterator.{YieldsList-from_slice}
use Rattle.std.proofs.lemmas.Iterator.Search.{all_from_yields_List}
use Rattle.text.specs.Class.{is_zero}
use Rattle.text.specs.Bytes.{all}
use Rattle.text.proofs.ByteLaws.{all_blocks}
use Rattle.text.proofs.is_zero.Goals as goal

pub returns-then-all : goal.returns-then-all
returns-then-all c =
    let s = c.args.s.now in
    let n = length s / 1024 in
    let blocks = all_from_yields_List (all is_zero) _ _ c.all.result c.all.ensures.ran (YieldsList-from_slice c.as_chunks.result.0.now cc) (λ x b q k. search (rules, tests)) in
    let first : list_all (all is_zero) (first_chunks 1024 n s) ≡ true = ap (list_all (all is_zero)) (sym c.as_chunks.ensures.front) ∙ sym blocks ∙ c.if-all.true in
    c.all-then-all.ensures ∙ rw c.as_chunks.ensures.back (rw first at (all_blocks is_zero 1024 n s))

pub returns-else-all : goal.returns-else-all
returns-else-all c =
    let s = c.args.s.now in
    let n = length s / 1024 in
    let blocks = all_from_yields_List (all is_zero) _ _ c.all.result c.all.ensures.ran (YieldsList-from_slice c.as_chunks.result.0.now cc) (λ x b q k. search (rules, tests)) in
    let first : list_all (all is_zero) (first_chunks 1024 n s) ≡ false = ap (list_all (all is_zero)) (sym c.as_chunks.ensures.front) ∙ sym blocks ∙ c.if-all.false in
    c.if-all.false ∙ (rw first at (all_blocks is_zero 1024 n s))
