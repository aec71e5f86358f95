pub mod FirstRows
mod SeenLemmas
mod SpotsRead
