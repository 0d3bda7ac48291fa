use Rattle.std.proofs.Common.{◌≡◌, ◌≤◌, ◌++◌, length, take, drop, ap, ◌∙◌, arith}
use Rattle.std.proofs.lemmas.List.{take-append-le}
use Rattle.rules.specs.Settlement.{open_ones}
use Rattle.portfolio.specs.Fitting.{is_sound}
use Rattle.portfolio.proofs.Soundness.{sound_kept}
use Rattle.portfolio.proofs.settling.settle_open.Goals as goal

pub settle_all-written-requires-clause-sound : goal.settle_all-written-requires-clause-sound
settle_all-written-requires-clause-sound g c =
    let placed = take c.args.placed c.args.hedges.now in
    let kept = c.keep_open-open.new.hedges in
    let n = c.keep_open-open.result in
    let room : n ≤ length kept = omega (arith, c.keep_open-open.ensures.few, c.keep_open-open.auto.hedges) in
    let front : take n (kept ++ drop c.args.placed c.args.hedges.now) ≡ open_ones placed = take-append-le n kept (drop c.args.placed c.args.hedges.now) room ∙ c.keep_open-open.ensures.hedges in
    (c.requires.sound.0, ap (is_sound 0 c.requires.sound.0) front ∙ sound_kept (λ x. x.live) 0 c.requires.sound.0 placed c.requires.sound.1)
