-- What the chains over the reserves give.
pub mod ChainLaws
