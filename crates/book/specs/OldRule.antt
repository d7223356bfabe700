-- The drawing as it was before seams: a straight is clear where no block hides it. Rule 43.
use Rattle.std.specs.Prelude.{◌≡◌, true, false, [], ℕ, ◌<◌, length, get_or}
use Rattle.geometry.specs.Words.{word, block_words}
use Rattle.tables.specs.Tables.{Records, Tables, records, place_of, pair_index, run_words, figure_of, route_words}
use Rattle.tables.specs.Written.{block_record, run_record}
use Rattle.visibility.specs.Visibility.{Hides, both_present, Unhidden}
use Rattle.routing.specs.Routes.{RouteIs}
use Rattle.totals.specs.Totals.{totals_of}
use Rattle.book.specs.Book.{Book}

-- the straight between two marks was clear
abbrev pub WasClear : Records → ℕ → ℕ → Type 0
WasClear R v u = (both_present R v u ≡ true) × Unhidden R.blocks (place_of R v) (place_of R u)

-- b was the byte of marks i and j
pub data PairWas (R : Records) (i j b : ℕ) : Type 0 where
  absent : both_present R i j ≡ false → b ≡ 255 → PairWas R i j b
  clear : WasClear R i j → b ≡ 254 → PairWas R i j b
  hidden : both_present R i j ≡ true → b < 24 → Hides R b i j → ((n : ℕ) → n < b → Hides R n i j → ⊥) → PairWas R i j b

-- every byte of pairs, routes and totals was what the stored blocks and runs required
pub record WasRight (T : Tables) : Type 0 where
  pub pairs : (i j : ℕ) → i < j → j < 240 → PairWas (records T) i j (word T.pairs (pair_index i j))
  pub routes : (m : ℕ) → m < 24 → RouteIs (records T) (WasClear (records T)) m (route_words T.routes m)
  pub totals : T.totals ≡ totals_of T.pairs T.routes

-- the tables were the fresh drawing of the book
pub record WasDrawn (b : Book) (T : Tables) : Type 0 where
  pub sizes : (length T.blocks ≡ 408) × (length T.runs ≡ 121) × (length T.pairs ≡ 28680) × (length T.routes ≡ 4728)
  pub blocks : (n : ℕ) → n < 24 → block_words T.blocks n ≡ block_record (get_or b.blocks n [])
  pub runs : (m : ℕ) → m < 24 → run_words T.runs m ≡ run_record (get_or b.runs m [])
  pub figure : figure_of T.runs ≡ b.figure
  pub right : WasRight T
