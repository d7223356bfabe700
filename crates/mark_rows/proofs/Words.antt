-- Words built bit by bit, and rows read by words and by marks: laws of `adjacency`.
pub use Rattle.adjacency.proofs.Words.{Part, part_none, part_small, part_next, part_whole, shows, shows_not, by_marks, by_words}
