-- Four blocks sealed side by side: a block of FOX128 in two words, and what holds of each of four blocks.
pub mod Wide
pub mod Each
