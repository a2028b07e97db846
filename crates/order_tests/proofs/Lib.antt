pub mod WorkedRows
