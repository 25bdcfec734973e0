-- `sheets::fits` meets its contract: a sum wraps past the largest number. Assumes nothing.
use Rattle.sheets.proofs.Laws.{fit-test}
use Rattle.std.proofs.Common.{rules}
use Rattle.sheets.proofs.fits.Goals as goal

pub returns : goal.returns
returns c = fit-test c.args.x c.args.y (search rules)
