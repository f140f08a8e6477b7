use Rattle.std.proofs.Common.{◌≡◌, ◌<◌, ℕ, List, [], length, get_or, refl, ap, ◌∙◌, arith, Bool, ◌&&◌, not}
use Rattle.frame.specs.Every.{every}
use Rattle.frame.proofs.ListLaws.{list_all_front}
use Rattle.text.specs.Bytes.{same}
use Rattle.tables.specs.Reporters.{code_of, address_of, reporter_form, reporter_at, reporter_ok, reporters_differ}
use Rattle.tables.proofs.reporter_ok.Goals as goal

pub returns : goal.returns
unfolding reporter_ok reporters_differ
returns c =
    let t = c.args.t.now in
    let k = c.args.k in
    let rows = c.rows-rows.result.now in
    let inside : k < length rows = omega (arith, c.requires, c.rows-rows.ensures.count) in
    let at : (j : ℕ) → j < length rows → get_or rows j [] ≡ reporter_at t j = λ j h. c.rows-rows.ensures.each j [] h in
    let differ : List ℕ → List ℕ → Bool = λ w v. not (same (code_of w) (code_of v)) && not (same (address_of w) (address_of v)) in
    let formed : c.is_reporter.result ≡ reporter_form (reporter_at t k) = c.is_reporter.ensures ∙ ap reporter_form (at k inside) in
    let new : c.is_new.result ≡ every k (reporters_differ t k) =
    c.is_new.ensures ∙ list_all_front (differ (get_or rows k [])) rows [] (reporters_differ t k) (λ j h. rw (at k inside, at j h) refl) k (omega arith) in
    rw (formed, new) refl
