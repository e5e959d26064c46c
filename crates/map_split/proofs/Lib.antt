-- `Fill`: a split whose new table is filled with holes.
pub mod Fill
