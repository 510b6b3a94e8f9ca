-- The definitions of design_picture, in reading order: where the boxes of tables stand, and the text of the
-- picture.
pub mod Places
pub mod Picture
