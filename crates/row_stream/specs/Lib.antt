-- A call on a reader's parts, with its row; and for the short ways what they answer, the calls that decide nothing, and a
-- search that lays the row of what it finds.
pub mod FedRows
pub mod Short
pub mod Going
pub mod RowSought
