-- `alpha::fields::first_text` meets its contract: behind a comma the first text ends at the next one. Assumes nothing.
use Rattle.std.proofs.Common.{◌≡◌, arith}
use Rattle.texts.specs.Commas.{to_comma}
use Rattle.texts.proofs.FieldEnds.{by_first, up_to_end}
use Rattle.alpha.proofs.fields.first_text.Goals as goal

pub split_at-requires : goal.split_at-requires
split_at-requires c = omega (arith, up_to_end c.in_ok-_comma.behind.now)

pub returns : goal.returns
returns c =
    let e : c.to_comma.result ≡ to_comma c.in_ok-_comma.behind.now = omega arith in
    rw (c.in_ok-_comma.ensures.cases.0, c.split_at.ensures.front, c.split_at.ensures.back, e) (by_first c.in_ok-_comma.behind.now)
