use native.Mathlib.Omega.{arith}
use Prim.Native.Nat.{ℕ, ◌+◌, ◌*◌}
use mathlib.Core.List.{List}
use mathlib.Core.Path.{◌≡◌, ap, ◌∙◌}
use borrow.Author.Rules.{rules}
use lib.ListN.{length}
use Rattle.envelope.specs.Body.{records_of}
use Rattle.envelope.specs.Envelope.{listed}
use Rattle.page.proofs.PageLaws.{fitted_short, fitted_room}
use Rattle.page.proofs.LentLaws.{left_by}
use Rattle.error_file.specs.ErrorFile.{error_text}
use Rattle.error_file.proofs.ErrorLaws.{digits_size, error_length, error_written}
use Rattle.error_file.proofs.Texts.write_opened.Goals as goal

pub returns-then-out-sender : goal.returns-then-out-sender
returns-then-out-sender c =
    let a = c.args in
    let lists = a.self.now.index.lists in
    let due : List ℕ = error_text lists.member.now lists.ours.now a.answers.now a.date.now a.time.now a.sender.now a.word.now (listed (records_of a.body.now)) in
    let sized : 79 + length a.sender.now + 2 * length a.word.now + c.pieces_size-lines.result ≡ length due
    = ap (λ (n : ℕ). 79 + length a.sender.now + 2 * length a.word.now + n) c.pieces_size-lines.ensures.0
    ∙ error_length lists.member.now lists.ours.now a.answers.now a.date.now a.time.now a.sender.now a.word.now
    (listed (records_of a.body.now)) (digits_size 8 _ c.requires.1) (digits_size 4 _ c.requires.2) in
    fitted_short a.out.now due (omega (arith, sized, c.if-out-sender.true))

pub returns : goal.returns
returns c =
    let a = c.args in
    let lists = a.self.now.index.lists in
    let due : List ℕ = error_text lists.member.now lists.ours.now a.answers.now a.date.now a.time.now a.sender.now a.word.now (listed (records_of a.body.now)) in
    let sized : 79 + length a.sender.now + 2 * length a.word.now + c.pieces_size-lines.result ≡ length due
    = ap (λ (n : ℕ). 79 + length a.sender.now + 2 * length a.word.now + n) c.pieces_size-lines.ensures.0
    ∙ error_length lists.member.now lists.ours.now a.answers.now a.date.now a.time.now a.sender.now a.word.now
    (listed (records_of a.body.now)) (digits_size 8 _ c.requires.1) (digits_size 4 _ c.requires.2) in
    let written = error_written lists.member.now lists.ours.now a.answers.now a.date.now a.time.now a.sender.now a.word.now
    (listed (records_of a.body.now)) _ c.append_head.ensures c.append_pieces.ensures c.append_tail.ensures in
    fitted_room a.out.now due (omega (arith, sized, c.if-out-sender.false)) (left_by _ due written (search rules))
