-- The fresh drawing of a book. Rules 22 and 25, and 44 for the totals.
use Rattle.std.specs.Prelude.{◌≡◌, [], ℕ, ◌<◌, length, get_or}
use Rattle.geometry.specs.Words.{block_words}
use Rattle.tables.specs.Tables.{Tables, records, run_words, figure_of, route_words}
use Rattle.tables.specs.Written.{block_record, run_record}
use Rattle.visibility.specs.Visibility.{ByPlaces, PairsRight}
use Rattle.routing.specs.Routes.{RouteIs}
use Rattle.totals.specs.Totals.{totals_of}
use Rattle.book.specs.Book.{Book}

-- every byte of pairs, routes and totals is what the stored blocks and runs require
pub record Right (T : Tables) : Type 0 where
  pub pairs : PairsRight (records T) T.pairs
  pub routes : (m : ℕ) → m < 24 → RouteIs (records T) (ByPlaces (records T)) m (route_words T.routes m)
  pub totals : T.totals ≡ totals_of T.pairs T.routes

-- the tables are the fresh drawing of the book
pub record Drawn (b : Book) (T : Tables) : Type 0 where
  pub sizes : (length T.blocks ≡ 408) × (length T.runs ≡ 121) × (length T.pairs ≡ 28680) × (length T.routes ≡ 4728)
  pub blocks : (n : ℕ) → n < 24 → block_words T.blocks n ≡ block_record (get_or b.blocks n [])
  pub runs : (m : ℕ) → m < 24 → run_words T.runs m ≡ run_record (get_or b.runs m [])
  pub figure : figure_of T.runs ≡ b.figure
  pub right : Right T
