-- The definitions of table_drawing: the Graphviz text of a design.
pub mod Drawing
