use Rattle.std.proofs.Common.{◌≡◌, ◌-◌, ℕ, List, [], ◌∷◌, length, take, drop, replicate, ap, ◌∙◌, arith, rules, length-append, length-take, length-drop, drop_of_length-le, append-nil}
use Rattle.std.proofs.lemmas.List.{drop_at, length-take-le}
use borrow.Rule.Slice.PartMut.{put_mid}
use Rattle.ledger.specs.Row.{row_size, zeros_place}
use Rattle.booking.proofs.FillLaws.{row_filled}
use Rattle.booking.proofs.fill_row.Goals as goal

pub returns : goal.returns
returns c =
    let w : List ℕ = c.args.w.now in
    let zeros : List ℕ = c.fill.new.self in
    let blank : List ℕ = put_mid zeros_place (length w - zeros_place) w zeros in
    let room : length (take (length w - zeros_place) (drop zeros_place w)) ≡ 3 = simp (length-take, length-drop) (omega (arith, c.requires.0)) in
    let filled : zeros ≡ 0 ∷ 0 ∷ 0 ∷ [] = c.fill.ensures.after (λ y h. search rules) ∙ ap (λ (m : ℕ). replicate m 0) room in
    let front : length (take zeros_place w) ≡ zeros_place = length-take-le zeros_place w (omega (arith, c.requires.0)) in
    let left : drop (length w - zeros_place) (drop zeros_place w) ≡ [] = drop_of_length-le (drop zeros_place w) (omega (arith, length-drop zeros_place w)) in
    let sized : length blank ≡ row_size = simp length-append (omega (arith, front, ap length filled, ap length left)) in
    let back : drop zeros_place blank ≡ 0 ∷ 0 ∷ 0 ∷ [] = drop_at (take zeros_place w) _ zeros_place front ∙ rw (left, append-nil zeros) filled in
    row_filled blank c.args.n.now c.args.q c.args.s sized back c.requires.1 c.put_number.ensures c.write.ensures c.write-2.ensures
