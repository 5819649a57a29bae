-- Only the code's own way; of the public clauses only those of the two searches need this.
-- What a stream means is defined in the folder above, without these.
pub mod Searches
