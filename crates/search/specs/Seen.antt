-- What is seen of a start before a frame is read there, in the words of the rules.
use Rattle.std.specs.Prelude.{ℕ, ◌+◌, Bool, ◌&&◌, ◌||◌, cond, List, eqb, length, drop, get_or}
use Rattle.stream_rules.specs.Heads.{is_spe, brackets_of, inner_run, undecided, length_at}
use Rattle.stream_laws.specs.Settled.{settled}
use Rattle.search.specs.declared.heads.Seen as SeenType
use Rattle.search.specs.declared.heads.Seen.TheVariants.{Whole, Bad, Undecided}

-- A start that is not undecided is bad, unless it was settled by as many bytes as a frame there has, and, between brackets, the
-- closing one stands behind the inner bytes: of those bytes the reader of one frame decides. No other packet's start is settled
-- by that many: a mark or a count settles one with 1 to 4 bytes, where a frame has 6, 75 or 76.
abbrev pub is_closed_off : ℕ → List ℕ → Bool
is_closed_off family bs =
    let k = brackets_of family in
    is_spe family || eqb (get_or bs (length (inner_run k (drop 1 bs)) + 1) 0) k.closing

unfoldable pub seen : ℕ → List ℕ → SeenType.Seen
seen family bs =
    cond (undecided family bs) Undecided
    (cond (eqb (settled family bs) (length_at family bs) && is_closed_off family bs) (Whole (length_at family bs))
    (Bad (settled family bs)))
